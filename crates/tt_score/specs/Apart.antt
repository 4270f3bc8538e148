-- Proof. What the soft rules cost of which a class is no member.
use Rattle.std.specs.Prelude.{ℕ, List, Option, is_none, sum_by, if◌then◌else◌}
use Rattle.tt_bits.specs.declared.times.Spot.{Spot}
use Rattle.tt_problem.specs.declared.parts.Rule.{Rule}
use Rattle.tt_problem.specs.declared.parts.Parts.{Parts}
use Rattle.tt_problem.specs.RulePlaces.{place_in}
use Rattle.tt_score.specs.Additions.{rule_cost}

-- the cost of a rule of which the class is no member, and 0 for the others
abbrev pub cost_apart : Parts → List (Option Spot) → (class : ℕ) → Rule → ℕ
cost_apart p spots class r = if is_none (place_in class r) then rule_cost p spots r else 0

-- the costs of the soft rules of which the class is no member together
abbrev pub cost_sum_without : Parts → List (Option Spot) → (class : ℕ) → ℕ
cost_sum_without p spots class = sum_by (cost_apart p spots class) p.rules
