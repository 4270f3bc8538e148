-- A class that is tried at another value.
use Rattle.std.proofs.Common.{◌≡◌, ◌∙◌, ℕ, ◌+◌, ◌*◌, ◌≤◌, List, Option, Some, None, ap, sym, refl, arith, mul-le-mul_left}
use Rattle.std.specs.Prelude.{slice_set, IsSome}
use Rattle.tt_bits.specs.declared.times.Spot.{Spot}
use Rattle.tt_bits.specs.declared.times.Value.{Value}
use Rattle.tt_problem.specs.declared.parts.Parts.{Parts}
use Rattle.tt_problem.specs.declared.parts.Weights.{Weights}
use Rattle.tt_plan.specs.Domain.{IsOfDomain, spot_at_value, spots_of, time_penalty, room_penalty}
use Rattle.tt_roster.specs.Conflicts.{class_conflicts, student_conflicts}
use Rattle.tt_roster.proofs.KeptLemmas.{room_is}
use Rattle.tt_score.specs.declared.classes.Paid.{Paid}
use Rattle.tt_score.specs.declared.score.Score.{Score}
use Rattle.tt_score.specs.Amounts.{cost_sum}
use Rattle.tt_score.specs.Apart.{cost_sum_without}
use Rattle.tt_score.specs.Fits.{Fits}
use Rattle.tt_score.specs.Placed.{over_placed}
use Rattle.tt_score.specs.Totals.{totals_of}
use Rattle.tt_score.specs.Paid.{penalties_with}
use Rattle.tt_score.specs.Weighted.{weighted}
use Rattle.tt_score.proofs.BoundLemmas.{spot_there, spot_in_room}
use Rattle.tt_score.proofs.CostLemmas.{cost_sum_without-least}
use Rattle.tt_score.proofs.PlanLemmas.{spots_of-set}
use Rattle.tt_score.proofs.RosterLemmas.{moved}

-- the total grows with the costs and the student conflicts
pub weighted-le : (w : Weights) (x : Paid) (costs costs' student student' : ℕ) → costs ≤ costs' → student ≤ student'
    → weighted w (penalties_with x costs student) ≤ weighted w (penalties_with x costs' student')
weighted-le w x costs costs' student student' costlier more =
    let rules : w.distribution * costs ≤ w.distribution * costs' = mul-le-mul_left w.distribution costlier in
    let students : w.student * student ≤ w.student * student' = mul-le-mul_left w.student more in
    omega (arith, rules, students)

-- the spots without the class
pub spots_without : (p : Parts) (s : Score) (class : ℕ) → Fits p s → slice_set s.roster.spots class None ≡ spots_of p (slice_set s.plan.items class None)
spots_without p s class fits = ap (λ l. slice_set l class None) (fits.placed ∙ fits.kept.spots) ∙ sym (spots_of-set p s.plan.items class None)

module _ (p : Parts) (s : Score) (class : ℕ) (v : Value) where
  -- the spots with the class at the value
  abbrev pub spots_then : List (Option Spot)
  spots_then = spots_of p (slice_set s.plan.items class (Some v))

  -- the costs of the soft rules then
  abbrev pub costs_then : ℕ
  costs_then = cost_sum p spots_then

  -- the student conflicts then
  abbrev pub conflicts_then : ℕ
  conflicts_then = student_conflicts p.travel spots_then s.roster.seats

  -- the total then
  abbrev pub total_then : ℕ
  total_then = (totals_of p s.closures (slice_set s.plan.items class (Some v)) s.roster.seats).total

  -- what the classes pay then for their times and rooms
  pub record IsPaidThen (x : Paid) : Type 0 where
    pub time : x.time ≡ over_placed (time_penalty p) (slice_set s.plan.items class (Some v))
    pub room : x.room ≡ over_placed (room_penalty p) (slice_set s.plan.items class (Some v))

  pub total_is : (x : Paid) (costs student : ℕ) → Fits p s → IsPaidThen x → costs ≡ costs_then → student ≡ conflicts_then
      → weighted s.weights (penalties_with x costs student) ≡ total_then
  total_is x costs student fits paid rules students = rw (fits.kept.weights, paid.time, paid.room, rules, students) refl

  pub total_least : (x : Paid) (costs student : ℕ) → Fits p s → IsPaidThen x → costs ≤ costs_then → student ≤ conflicts_then
      → weighted s.weights (penalties_with x costs student) ≤ total_then
  total_least x costs student fits paid rules students =
      omega (arith, weighted-le s.weights x costs costs_then student conflicts_then rules students, total_is x costs_then conflicts_then fits paid refl refl)

  -- the spots then are those of before with the class at the spot of the value
  pub spots_are : (y : Option Spot) (spots : List (Option Spot)) → Fits p s → spot_at_value p class v ≡ y → spots ≡ s.occupancy.spots → slice_set spots class y ≡ spots_then
  spots_are y spots fits is same =
      ap (λ l. slice_set l class y) (same ∙ fits.kept.spots) ∙ ap (slice_set (spots_of p s.plan.items) class) (sym is) ∙ sym (spots_of-set p s.plan.items class (Some v))

  -- the rules of which the class is no member cost no more alone
  pub rest_least : Fits p s → cost_sum_without p s.occupancy.spots class ≤ costs_then
  rest_least fits =
      let y = spot_at_value p class v in omega (arith, cost_sum_without-least p s.occupancy.spots class y, ap (cost_sum p) (spots_are y s.occupancy.spots fits refl refl))

  -- The student conflicts then: `others` without the class, and those of the class.
  pub record AreConflicts (others more : ℕ) : Type 0 where
    pub few : others + more ≤ 4000000 * 4000000
    pub sum : others + more ≡ conflicts_then

  pub conflicts_are : (x : Spot) (others more : ℕ) → Fits p s → IsOfDomain p class v → spot_at_value p class v ≡ Some x
      → others ≡ (totals_of p s.closures (slice_set s.plan.items class None) s.roster.seats).student
      → more ≡ class_conflicts p.travel s.roster.spots s.roster.seats class x
      → AreConflicts others more
  conflicts_are x others more fits of is rest gain =
      let valid = fits.kept.valid in
      let with = moved p s.roster class x others more valid fits.roster of.within (room_is p x x.room valid (spot_in_room p class v x valid is))
      (rest ∙ ap (λ l. student_conflicts p.travel l s.roster.seats) (sym (spots_without p s class fits))) gain in
      record { few = with.1; sum = with.0 ∙ ap (λ l. student_conflicts p.travel l s.roster.seats) (spots_are (Some x) s.roster.spots fits is fits.placed) }

  pub others_least : (others : ℕ) → Fits p s → IsOfDomain p class v → others ≡ (totals_of p s.closures (slice_set s.plan.items class None) s.roster.seats).student → others ≤ conflicts_then
  others_least others fits of rest = with_spot (spot_at_value p class v) refl (spot_there p class v of)
    where
      with_spot : (o : Option Spot) → spot_at_value p class v ≡ o → IsSome o → others ≤ conflicts_then
      with_spot None is there = absurd (cc there)
      with_spot (Some x) is there =
          omega (arith, (conflicts_are x others (class_conflicts p.travel s.roster.spots s.roster.seats class x) fits of is rest refl).sum)
