-- Theorem. What `costs` writes: where the total comes from.
use Rattle.std.specs.Prelude.{◌≡◌, ℕ, ◌+◌, ◌*◌, Bool, false, not, ◌&&◌, ◌==◌, List, Option, ◌++◌, codes, filter, length, nat_lt, slice_get, sum_by}
use Rattle.std.specs.List.{flat_map, range_with_len}
use Rattle.std.specs.Option.{option_map_or}
use Rattle.tt_bits.specs.declared.times.Spot.{Spot}
use Rattle.tt_bits.specs.declared.times.Value.{Value}
use Rattle.tt_problem.specs.declared.parts.Parts.{Parts}
use Rattle.tt_problem.specs.Places.{class_id}
use Rattle.tt_plan.specs.Domain.{spots_of, time_penalty, room_penalty}
use Rattle.tt_score.specs.Amounts.{rule_amount}
use Rattle.tt_score.specs.declared.totals.Totals.{Totals}
use Rattle.tt_state.specs.Snapshots.{Snapshot, value_in}
use Rattle.tt_text.specs.Fields.{field}
use Rattle.tt_verify.specs.Costs.{cost_at}
use Rattle.tt_explain.specs.declared.costing.ClassCosts.{ClassCosts}
use Rattle.tt_explain.specs.Explain.{line_at, pair_count}

-- ---- the rules

-- a soft rule with an amount above 0 stands at this place
unfoldable pub is_costly_rule : Parts → List (Option Spot) → (place : ℕ) → Bool
is_costly_rule p spots place =
    option_map_or (λ r. not r.required && not (rule_amount p spots r == 0)) (slice_get p.rules place) false

-- the places of these rules, in the problem's order
unfoldable pub costly_rules : Parts → List (Option Spot) → List ℕ
costly_rules p spots = filter (is_costly_rule p spots) (range_with_len 0 (length p.rules))

-- ---- the classes

-- what a class costs: the penalties of its time and room, 0 where it isn't placed, and in how many conflicting pairs it is
unfoldable pub class_costs : Parts → Snapshot → (class : ℕ) → ClassCosts
class_costs p s class =
    let paid : (Parts → ℕ → Value → ℕ) → ℕ = λ penalty. option_map_or (penalty p class) (value_in s class) 0 in
    record { time = paid time_penalty; room = paid room_penalty; conflicts = pair_count p s class }

-- the class costs something, whatever each of its costs weighs
unfoldable pub is_costly_class : Parts → Snapshot → (class : ℕ) → Bool
is_costly_class p s class = let c = class_costs p s class in nat_lt 0 (c.time + c.room + c.conflicts)

-- these classes, in the problem's order
unfoldable pub costly_classes : Parts → Snapshot → List ℕ
costly_classes p s = filter (is_costly_class p s) (range_with_len 0 (length p.classes))

-- what these cost, by one kind of cost
abbrev pub costly_sum : Parts → Snapshot → (ClassCosts → ℕ) → ℕ
costly_sum p s kind = sum_by (λ class. kind (class_costs p s class)) (costly_classes p s)

-- `class C time X room Y conflicts M`
unfoldable pub class_cost_line : Parts → (class : ℕ) → ClassCosts → List ℕ
class_cost_line p class c =
    field (codes "class ") (class_id p class)
    ++ field (codes " time ") c.time
    ++ field (codes " room ") c.room
    ++ field (codes " conflicts ") c.conflicts
    ++ codes "\n"

-- ---- all lines

-- a line for each of these rules, as `explain` writes it, and one for each of these classes
unfoldable pub costs_lines : Parts → Snapshot → List ℕ
costs_lines p s =
    flat_map (line_at p (spots_of p s.plan)) (costly_rules p (spots_of p s.plan))
    ++ flat_map (λ class. class_cost_line p class (class_costs p s class)) (costly_classes p s)

-- ---- the sums

-- What is written adds up to these totals, where a pair of classes is counted at both.
pub record AddUp (p : Parts) (s : Snapshot) (totals : Totals) : Type 0 where
  pub time : costly_sum p s (λ c. c.time) ≡ totals.time
  pub room : costly_sum p s (λ c. c.room) ≡ totals.room
  pub distribution : sum_by (cost_at p (spots_of p s.plan)) (costly_rules p (spots_of p s.plan)) ≡ totals.distribution
  pub student : costly_sum p s (λ c. c.conflicts) ≡ 2 * totals.student
