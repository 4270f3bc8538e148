-- What the questions write adds up to the sums of the line of totals.
use Rattle.std.proofs.Common.{◌≡◌, ◌∙◌, ℕ, ◌*◌, ◌/◌, ◌≤◌, ◌+◌, Bool, true, false, List, [], Option, Some, None, length, refl, sym, ap, arith, inl, inr}
use Rattle.std.specs.Prelude.{sum_by, not, ◌&&◌, ◌==◌, nat_lt, slice_get, All, IfSome, if◌then◌else◌}
use Rattle.std.specs.List.{range_with_len}
use Rattle.std.specs.Option.{option_map_or}
use Rattle.std.proofs.lemmas.Bool.{cases_lt, eqb-true, lt-ltb}
use Rattle.tt_bits.specs.declared.times.Spot.{Spot}
use Rattle.tt_bits.specs.declared.times.Value.{Value}
use Rattle.tt_bits.specs.Spots.{spot_at}
use Rattle.tt_travel.specs.Table.{IsRoomOf, IsTravel}
use Rattle.tt_problem.specs.declared.parts.DistKind.{DistKind}
use Rattle.tt_problem.specs.declared.parts.Parts.{Parts}
use Rattle.tt_problem.specs.declared.parts.Rule.{Rule}
use Rattle.tt_problem.specs.Kinds.{is_shared_by_weeks}
use Rattle.tt_problem.specs.Valid.{IsValid}
use Rattle.tt_plan.specs.Domain.{IsSpotOf, spots_of, time_penalty, room_penalty}
use Rattle.tt_roster.specs.Conflicts.{class_conflicts, conflicts_in, student_conflicts}
use Rattle.tt_roster.specs.Lists.{Ascends}
use Rattle.tt_roster.proofs.KeptLemmas.{room_is}
use Rattle.tt_score.specs.Amounts.{rule_amount, cost_of, kind_cost}
use Rattle.tt_score.specs.Additions.{paid_at, rule_cost}
use Rattle.tt_score.specs.Members.{AreSpotsOf}
use Rattle.tt_score.specs.Placed.{over_placed}
use Rattle.tt_score.specs.Totals.{totals_of}
use Rattle.tt_state.specs.Snapshots.{Snapshot, list_in}
use Rattle.tt_verify.specs.Costs.{cost_at}
use Rattle.tt_verify.specs.Pairs.{related_pairs}
use Rattle.tt_verify.proofs.PairLemmas.{costs_by_place, length-related_pairs}
use Rattle.tt_explain.specs.declared.costing.ClassCosts.{ClassCosts}
use Rattle.tt_explain.specs.Explain.{amount_line, line_at, pair_count, rule_line}
use Rattle.tt_explain.specs.Pairs.{conflict_between, pairs_of, times_in}
use Rattle.tt_explain.specs.Student.{student_pairs}
use Rattle.tt_explain.specs.Meets.{all_met, met_classes, met_students}
use Rattle.tt_explain.specs.Costs.{AddUp, class_costs, costly_classes, costly_rules, costly_sum, is_costly_class, is_costly_rule}
use Rattle.tt_explain.proofs.ConflictLaws.{conflicts-by_class, conflicts-by_other, pairs-by_class}
use Rattle.tt_explain.proofs.SumLemmas.{sum-alike, sum-filter, sum-places}

-- a number that isn't above 0
none_above : (n : ℕ) → nat_lt 0 n ≡ false → n ≡ 0
none_above n not_above = elim (cases_lt 0 n) [
  | inl above ↦ absurd (let yes = lt-ltb 0 n above in cc)
  | inr none ↦ omega arith
]

-- ---- rules

nothing_shared : (penalty weeks : ℕ) → (penalty * 0) / weeks ≡ 0
nothing_shared penalty weeks = grind arith

-- an amount of 0 costs nothing
free : (kind : DistKind) (weeks penalty : ℕ) → kind_cost kind weeks penalty 0 ≡ 0
free kind weeks penalty = by (is_shared_by_weeks kind)
  where
    by : (b : Bool) → (if b then (penalty * 0) / weeks else penalty * 0) ≡ 0
    by true = nothing_shared penalty weeks
    by false = omega arith

-- a rule that isn't costly costs nothing
free_rule : (p : Parts) (spots : List (Option Spot)) (r : Rule) → (not r.required && not (rule_amount p spots r == 0)) ≡ false → rule_cost p spots r ≡ 0
unfolding cost_of
free_rule p spots r is = by r.required (rule_amount p spots r == 0) refl is
  where
    by : (required none : Bool) → (rule_amount p spots r == 0) ≡ none → (not required && not none) ≡ false → (if required then 0 else kind_cost r.kind p.nr_weeks r.penalty (rule_amount p spots r)) ≡ 0
    by true none zero costly = refl
    by false true zero costly = ap (kind_cost r.kind p.nr_weeks r.penalty) (eqb-true (rule_amount p spots r) 0 zero) ∙ free r.kind p.nr_weeks r.penalty
    by false false zero costly = absurd cc

free_place : (p : Parts) (spots : List (Option Spot)) (place : ℕ) → is_costly_rule p spots place ≡ false → cost_at p spots place ≡ 0
unfolding is_costly_rule cost_at
free_place p spots place is = elim (slice_get p.rules place) as (λ (o : Option Rule). slice_get p.rules place ≡ o → cost_at p spots place ≡ 0) [
  | None ↦ λ none. rw none refl
  | Some r ↦ λ at. rw at (free_rule p spots r (rw at at is))
] refl

rules_add_up : (p : Parts) (spots : List (Option Spot)) → sum_by (cost_at p spots) (costly_rules p spots) ≡ sum_by (rule_cost p spots) p.rules
unfolding costly_rules
rules_add_up p spots = sum-filter (cost_at p spots) (is_costly_rule p spots) (range_with_len 0 (length p.rules)) (free_place p spots) ∙ costs_by_place p spots

-- a required rule isn't written
pub required_place : (p : Parts) (spots : List (Option Spot)) (place : ℕ) (r : Rule) → slice_get p.rules place ≡ Some r → r.required ≡ true → is_costly_rule p spots place ≡ false
unfolding is_costly_rule
required_place p spots place r at required = rw (at, required) refl

-- a soft one has its line exactly where its amount is above 0
pub soft_place : (p : Parts) (spots : List (Option Spot)) (place : ℕ) (r : Rule) → slice_get p.rules place ≡ Some r → r.required ≡ false
    → line_at p spots place ≡ (if is_costly_rule p spots place then line_at p spots place else [])
unfolding is_costly_rule line_at rule_line
soft_place p spots place r at soft = rw at (by r.required (rule_amount p spots r == 0) (amount_line p place r (rule_amount p spots r)) soft)
  where
    by : (required none : Bool) (line : List ℕ) → required ≡ false → (if none then [] else line) ≡ (if not required && not none then (if none then [] else line) else [])
    by true none line is = absurd cc
    by false true line is = refl
    by false false line is = refl

-- ---- classes

abbrev all_costs : ClassCosts → ℕ
all_costs c = c.time + c.room + c.conflicts

module _ (p : Parts) (s : Snapshot) where
  -- classes that cost nothing add nothing
  costly : (kind : ClassCosts → ℕ) → ((c : ClassCosts) → kind c ≤ all_costs c) → costly_sum p s kind ≡ sum_by (λ class. kind (class_costs p s class)) (range_with_len 0 (length p.classes))
  unfolding costly_classes is_costly_class
  costly kind within =
      sum-filter (λ class. kind (class_costs p s class)) (is_costly_class p s) (range_with_len 0 (length p.classes))
      (λ class none. omega (arith, within (class_costs p s class), none_above (all_costs (class_costs p s class)) none))

  -- a penalty of the classes' values
  paid_up : (kind : ClassCosts → ℕ) (f : ℕ → Value → ℕ) → ((c : ClassCosts) → kind c ≤ all_costs c) → ((class : ℕ) → kind (class_costs p s class) ≡ paid_at f s.plan class) → length s.plan ≡ length p.classes
      → costly_sum p s kind ≡ over_placed f s.plan
  unfolding over_placed
  paid_up kind f within paid whole =
      costly kind within
      ∙ sum-alike (λ class. kind (class_costs p s class)) (paid_at f s.plan) (range_with_len 0 (length p.classes)) paid
      ∙ ap (λ n. sum_by (paid_at f s.plan) (range_with_len 0 n)) (sym whole)

  time_paid : (class : ℕ) → (class_costs p s class).time ≡ paid_at (time_penalty p) s.plan class
  unfolding class_costs
  time_paid class = refl

  room_paid : (class : ℕ) → (class_costs p s class).room ≡ paid_at (room_penalty p) s.plan class
  unfolding class_costs
  room_paid class = refl

  -- the conflicting pairs with a class
  pairs_paid : (class : ℕ) → (class_costs p s class).conflicts ≡ option_map_or (class_conflicts p.travel (spots_of p s.plan) s.lists class) (spot_at (spots_of p s.plan) class) 0
  unfolding class_costs pair_count
  pairs_paid class = refl

-- the room of each placed class is one of the travel
pub rooms_of : (p : Parts) (spots : List (Option Spot)) → IsValid p → AreSpotsOf p spots → (class : ℕ) → IfSome (spot_at spots class) (λ x. IsRoomOf p.travel x.room)
rooms_of p spots valid fit class = by (spot_at spots class) (fit class)
  where
    by : (o : Option Spot) → IfSome o (IsSpotOf p) → IfSome o (λ x. IsRoomOf p.travel x.room)
    by None fits = tt
    by (Some x) fits = room_is p x x.room valid fits.room

-- ---- the laws

-- what `costs` writes adds up to the penalties, where a pair of classes is counted at both
pub add_up : (p : Parts) (s : Snapshot) → IsValid p → AreSpotsOf p (spots_of p s.plan) → length s.plan ≡ length p.classes → All (Ascends 0 (length p.classes)) s.lists → AddUp p s (totals_of p s.closures s.plan s.lists)
add_up p s valid fit whole ordered = record {
  time = paid_up p s (λ c. c.time) (time_penalty p) (λ c. omega arith) (time_paid p s) whole;
  room = paid_up p s (λ c. c.room) (room_penalty p) (λ c. omega arith) (room_paid p s) whole;
  distribution = rules_add_up p (spots_of p s.plan);
  student =
      costly p s (λ c. c.conflicts) (λ c. omega arith)
      ∙ sum-alike (λ class. (class_costs p s class).conflicts) (λ class. option_map_or (class_conflicts p.travel (spots_of p s.plan) s.lists class) (spot_at (spots_of p s.plan) class) 0)
      (range_with_len 0 (length p.classes)) (pairs_paid p s)
      ∙ conflicts-by_class p.travel (spots_of p s.plan) (length p.classes) s.lists ordered valid.travel (rooms_of p (spots_of p s.plan) valid fit);
}

-- the students whom `meets` counts are the conflicting pairs with the class
pub met_add_up : (p : Parts) (s : Snapshot) (class : ℕ) → All (Ascends 0 (length p.classes)) s.lists → all_met p s class ≡ pair_count p s class
unfolding all_met met_classes met_students pair_count
met_add_up p s class ordered =
    sum-filter (met_students p s class) (λ other. nat_lt 0 (met_students p s class other)) (range_with_len 0 (length p.classes)) (λ other none. none_above (met_students p s class other) none)
    ∙ conflicts-by_other p.travel (spots_of p s.plan) (length p.classes) s.lists ordered class

-- the pairs that `student` writes are the student's conflicts
pub pairs_counted : (p : Parts) (s : Snapshot) (student : ℕ) → length (student_pairs p s student) ≡ conflicts_in p.travel (spots_of p s.plan) (list_in s student)
unfolding student_pairs
pairs_counted p s student = length-related_pairs (conflict_between p s) (list_in s student)

-- over all students they are the student conflicts
pub pairs_add_up : (p : Parts) (s : Snapshot) → length s.lists ≡ length p.students → sum_by (λ student. length (student_pairs p s student)) (range_with_len 0 (length p.students)) ≡ student_conflicts p.travel (spots_of p s.plan) s.lists
pairs_add_up p s whole =
    sum-alike (λ student. length (student_pairs p s student)) (λ student. conflicts_in p.travel (spots_of p s.plan) (list_in s student)) (range_with_len 0 (length p.students)) (pairs_counted p s)
    ∙ ap (λ n. sum_by (λ student. conflicts_in p.travel (spots_of p s.plan) (list_in s student)) (range_with_len 0 n)) (sym whole)
    ∙ sum-places (conflicts_in p.travel (spots_of p s.plan)) s.lists []

-- the pairs of all students with a class in them are the conflicting pairs with it
pub all_counted : (p : Parts) (s : Snapshot) (class : ℕ) → length s.lists ≡ length p.students → All (Ascends 0 (length p.classes)) s.lists → IsTravel p.travel → ((c : ℕ) → IfSome (spot_at (spots_of p s.plan) c) (λ x. IsRoomOf p.travel x.room))
    → sum_by (pairs_of p s class) (range_with_len 0 (length p.students)) ≡ pair_count p s class
unfolding pair_count student_pairs
all_counted p s class whole ordered sound rooms =
    ap (λ n. sum_by (pairs_of p s class) (range_with_len 0 n)) (sym whole)
    ∙ sum-places (λ list. times_in class (related_pairs (conflict_between p s) list)) s.lists []
    ∙ pairs-by_class p.travel (spots_of p s.plan) (length p.classes) s.lists ordered sound rooms class
