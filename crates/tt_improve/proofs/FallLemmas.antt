-- A class that moves to a value that isn't blocked and pushes no class out: the number called hard doesn't rise.
use Rattle.std.proofs.Common.{◌≡◌, ◌∙◌, ℕ, ◌<◌, ◌≤◌, List, [], Option, Some, None, length, get_or, refl, ap, arith, inl, inr}
use Rattle.std.specs.Prelude.{slice_set, slice_get, nat_eq}
use Rattle.std.specs.Option.{option_map}
use Rattle.std.specs.List.{IsDistinct}
use Rattle.std.proofs.lemmas.Option.{slice_get_cases, slice_get_within, get_or_from_slice_get}
use Rattle.tt_bits.specs.declared.times.Closure.{Closure}
use Rattle.tt_bits.specs.declared.times.Spot.{Spot}
use Rattle.tt_bits.specs.declared.times.Value.{Value}
use Rattle.tt_problem.specs.declared.parts.Rule.{Rule}
use Rattle.tt_problem.specs.declared.parts.Parts.{Parts}
use Rattle.tt_problem.specs.Valid.{IsValid, IsValidRule}
use Rattle.tt_plan.specs.Domain.{IsOfDomain, IsValueFor, spot_at_value, spots_of}
use Rattle.tt_clash.specs.Amounts.{rule_amounts}
use Rattle.tt_clash.specs.Blocked.{blocked_by}
use Rattle.tt_clash.specs.ConflictSet.{conflict_set}
use Rattle.tt_score.specs.Forcing.{among}
use Rattle.tt_clash.proofs.AmountLemmas.{open-none}
use Rattle.tt_score.specs.Placed.{closed_count}
use Rattle.tt_score.specs.Totals.{totals_of}
use Rattle.tt_score.proofs.PlanLemmas.{over_placed-set, spots_of-set, length-spots_from}
use Rattle.tt_improve.proofs.HardLemmas.{clashes-fall, rules-fall}

-- a value of the domain has a spot
pub spot_of_value : (p : Parts) (c : ℕ) (v : Value) → IsOfDomain p c v → (x : Spot) × (spot_at_value p c v ≡ Some x)
unfolding spot_at_value
spot_of_value p c v domain =
    elim (slice_get_cases p.classes c).1 [
      | inl part ↦
          let is_value : IsValueFor part.0 v = rw part.2 at domain.value in
          elim (slice_get_cases part.0.times v.time).1 [
            | inl time ↦ (record { time = time.0.time; room = option_map (λ r. r.room) (slice_get part.0.rooms v.room) }, rw (part.2, time.2) refl)
            | inr past ↦ absurd (omega (arith, past.0, is_value.time))
          ]
      | inr past ↦ absurd (omega (arith, past.0, domain.within))
    ]

-- a value that isn't blocked adds no closed time
pub open_value : (p : Parts) (closures : List Closure) (c : ℕ) (v : Value) (x : Spot) → spot_at_value p c v ≡ Some x → blocked_by p closures c x ≡ None → closed_count p closures c v ≡ 0
unfolding closed_count
open_value p closures c v x is none = rw (is, (open-none p closures c x none).0) refl

pub distinct-rules : (p : Parts) → IsValid p → (k : ℕ) (r : Rule) → slice_get p.rules k ≡ Some r → IsDistinct nat_eq r.members
distinct-rules p valid k r is =
    let one : IsValidRule p (get_or p.rules k r) = valid.rules k r (slice_get_within p.rules k r is) in
    let same = get_or_from_slice_get p.rules k r r is in
    (rw same at one).distinct

pub hard-falls : (p : Parts) (closures : List Closure) (plan : List (Option Value)) (lists : List (List ℕ)) (c : ℕ) (v : Value) (x : Spot) → IsValid p → c < length plan → spot_at_value p c v ≡ Some x → blocked_by p closures c x ≡ None
    → conflict_set (rule_amounts p) (among p plan c x) ≡ [] → (totals_of p closures (slice_set plan c (Some v)) lists).hard ≤ (totals_of p closures plan lists).hard
hard-falls p closures plan lists c v x valid within is none empty =
    let h = spots_of p plan in
    let inside : c < length h = omega (arith, length-spots_from p 0 plan) in
    let moved : spots_of p (slice_set plan c (Some v)) ≡ slice_set h c (Some x) = spots_of-set p plan c (Some v) ∙ ap (slice_set h c) is in
    let clashes = clashes-fall p closures h c x inside none empty in
    let rules = rules-fall p closures h c x inside none empty (distinct-rules p valid) in
    let closed = over_placed-set (closed_count p closures) plan c (Some v) within in
    let no_more = open_value p closures c v x is none in
    rw moved (omega (arith, clashes, rules, closed, no_more))
