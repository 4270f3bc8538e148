-- What a snapshot in which classes have other values has in common with the one before.
use Rattle.std.proofs.Common.{◌≡◌, ◌≢◌, ℕ, zero, suc, ◌<◌, Bool, true, false, cond, List, [], ◌∷◌, Option, Some, None, length, get_or, refl, sym, ap, ◌∙◌, arith, inl, inr}
use Rattle.std.specs.Prelude.{◌&&◌, ◌==◌, not, is_none, is_some, slice_set}
use Rattle.std.specs.List.{filter, range_with_len}
use Rattle.std.proofs.Math.Path.{fun_ext}
use Rattle.std.proofs.lemmas.Bool.{and_parts, both_ways, cases_eq, eqb-true}
use Rattle.std.proofs.lemmas.List.{length-set, get_or-set_same, get_or-set_other}
use Rattle.std.proofs.lemmas.List.Sums.{sum_by-cons}
use Rattle.tt_bits.specs.declared.times.Spot.{Spot}
use Rattle.tt_bits.specs.declared.times.Value.{Value}
use Rattle.tt_problem.specs.declared.parts.Parts.{Parts}
use Rattle.tt_problem.specs.Valid.{IsValid}
use Rattle.tt_plan.specs.Domain.{IsOfDomain, spot_at_value}
use Rattle.tt_clash.specs.Amounts.{rule_amounts}
use Rattle.tt_clash.specs.Blocked.{blocked_by}
use Rattle.tt_clash.specs.ConflictSet.{conflict_set}
use Rattle.tt_score.specs.Forcing.{among}
use Rattle.tt_score.specs.Additions.{unplaced_count}
use Rattle.tt_state.specs.Snapshots.{Snapshot, StaysLocked, is_locked_in, may_lock, value_in, with_value}
use Rattle.tt_state.specs.Values.{blocked_of, conflict_set_of}
use Rattle.tt_improve.specs.Classes.{is_free}
use Rattle.tt_improve.specs.Targets.{movable_classes, seated_courses}
use Rattle.tt_improve.specs.Standing.{IsMovable}
use Rattle.tt_improve.proofs.ClassLemmas.{empty_is, none_is}
use Rattle.tt_improve.proofs.FallLemmas.{hard-falls, spot_of_value}
use Rattle.tt_deluge.specs.Standing.{StandsAs}
use Rattle.tt_deluge.specs.StudentRounds.{choices_in}
use Rattle.tt_deluge.specs.Pieces.{Targets, targets_at, half_exchanged}
use Rattle.tt_deluge.proofs.ExchangeLemmas.{exchange-falls}

-- the same classes are placed
abbrev pub ArePlacedAlike : (old new : List (Option Value)) → Type 0
ArePlacedAlike old new = (class : ℕ) → is_some (get_or new class None) ≡ is_some (get_or old class None)

placed_within : (plan : List (Option Value)) (c : ℕ) → is_some (get_or plan c None) ≡ true → c < length plan
placed_within [] c e = absurd (cc e)
placed_within (o ∷ plan) zero e = omega arith
placed_within (o ∷ plan) (suc c) e = omega (arith, placed_within plan c e)

-- a placed class gets another value
pub alike-set : (plan : List (Option Value)) (c : ℕ) (v : Value) → is_some (get_or plan c None) ≡ true → ArePlacedAlike plan (slice_set plan c (Some v))
alike-set plan c v placed d =
    elim (cases_eq d c) [
      | inl same ↦ rw same (ap is_some (get_or-set_same plan c (Some v) None (placed_within plan c placed)) ∙ sym placed)
      | inr other ↦ ap is_some (get_or-set_other plan c d (Some v) None other)
    ]

-- one placed class is taken out, another gets a value, and then the first one gets one
pub alike-exchange : (plan : List (Option Value)) (c : ℕ) (v : Value) (other : ℕ) (to : Value) → is_some (get_or plan c None) ≡ true → is_some (get_or plan other None) ≡ true
    → ArePlacedAlike plan (slice_set (slice_set (slice_set plan other None) c (Some v)) other (Some to))
alike-exchange plan c v other to placed other_placed d =
    let less : List (Option Value) = slice_set plan other None in
    let half : List (Option Value) = slice_set less c (Some v) in
    let long_less : length less ≡ length plan = length-set plan other None in
    let long : length half ≡ length less = length-set less c (Some v) in
    elim (cases_eq d other) [
      | inl same ↦ rw same (ap is_some (get_or-set_same half other (Some to) None (omega (arith, long, long_less, placed_within plan other other_placed))) ∙ sym other_placed)
      | inr apart ↦
          ap is_some (get_or-set_other half other d (Some to) None apart)
          ∙ elim (cases_eq d c) [
            | inl same ↦ rw same (ap is_some (get_or-set_same less c (Some v) None (omega (arith, long_less, placed_within plan c placed))) ∙ sym placed)
            | inr differs ↦ ap is_some (get_or-set_other less c d (Some v) None differs ∙ get_or-set_other plan other d None None apart)
          ]
    ]

-- then as many are unplaced
abbrev none_in : Option Value → ℕ
none_in o = cond (is_none o) 1 0

none_alike : (a b : Option Value) → is_some a ≡ is_some b → none_in a ≡ none_in b
none_alike None None e = refl
none_alike (Some x) (Some y) e = refl
none_alike None (Some y) e = absurd (cc e)
none_alike (Some x) None e = absurd (cc e)

pub unplaced-alike : (old new : List (Option Value)) → length new ≡ length old → ArePlacedAlike old new → unplaced_count new ≡ unplaced_count old
unplaced-alike [] [] long alike = refl
unplaced-alike [] (b ∷ new) long alike = absurd (omega (arith, long))
unplaced-alike (a ∷ old) [] long alike = absurd (omega (arith, long))
unplaced-alike (a ∷ old) (b ∷ new) long alike =
    let first : none_in b ≡ none_in a = none_alike b a (alike 0) in
    let later = unplaced-alike old new (omega (arith, long)) (λ d. alike (suc d)) in
    omega (arith, first, later, sum_by-cons none_in a old, sum_by-cons none_in b new)

-- and the targets are the same
pub targets-alike : (p : Parts) (s : Snapshot) (plan : List (Option Value)) → ArePlacedAlike s.plan plan
    → targets_at p (record { plan = plan; lists = s.lists; statistics = s.statistics; closures = s.closures; locks = s.locks }) ≡ targets_at p s
unfolding movable_classes seated_courses choices_in
targets-alike p s plan alike =
    let of_classes : List ℕ → Targets = λ (classes : List ℕ). record { classes = classes; choices = choices_in p s } in
    ap (λ (test : ℕ → Bool). of_classes (filter test (range_with_len 0 (length p.classes))))
    (fun_ext (λ (d : ℕ). ap (λ (b : Bool). b && not (is_locked_in s d)) (alike d)))

-- a class that isn't locked gets a value or none, and the locked ones stay
pub others-stay : (s : Snapshot) (class : ℕ) (o : Option Value) → is_locked_in s class ≡ false → (d : ℕ) → StaysLocked s (with_value s class o) d
others-stay s class o open_one d locked = (get_or-set_other s.plan class d o None apart, locked)
  where
    apart : d ≢ class
    apart same = both_ways (is_locked_in s class) open_one (rw same at locked)

pub stay-next : (s t u : Snapshot) (d : ℕ) → StaysLocked s t d → StaysLocked t u d → StaysLocked s u d
stay-next s t u d one two locked = let first = one locked in let next = two first.1 in (next.0 ∙ first.0, next.1)

pub movable-parts : (s : Snapshot) (class : ℕ) → may_lock s class ≡ true → (is_some (value_in s class) ≡ true) × (is_locked_in s class ≡ false)
movable-parts s class free = let parts = and_parts (is_some (value_in s class)) (not (is_locked_in s class)) free in (parts.0, not_true (is_locked_in s class) parts.1)
  where
    not_true : (b : Bool) → not b ≡ true → b ≡ false
    not_true true e = absurd (cc e)
    not_true false e = refl

-- what a free value of the domain gives
pub record IsOpenSpot (p : Parts) (s : Snapshot) (class : ℕ) (v : Value) (x : Spot) : Type 0 where
  pub spot : spot_at_value p class v ≡ Some x
  pub open_one : blocked_by p s.closures class x ≡ None
  pub alone : conflict_set (rule_amounts p) (among p s.plan class x) ≡ []

pub open_spot : (p : Parts) (s : Snapshot) (class : ℕ) (v : Value) → IsOfDomain p class v → is_free p s class v ≡ true → (x : Spot) × IsOpenSpot p s class v x
unfolding blocked_of conflict_set_of
open_spot p s class v domain free =
    let spot = spot_of_value p class v domain in
    let parts = and_parts (is_none (blocked_of p s.closures class v)) (length (conflict_set_of p s class v) == 0) free in (
      spot.0,
      record {
        spot = spot.1;
        open_one = rw spot.1 at (none_is (blocked_of p s.closures class v) parts.0);
        alone = rw spot.1 at (empty_is (conflict_set_of p s class v) (eqb-true (length (conflict_set_of p s class v)) 0 parts.1));
      },
    )

-- a class that gets a free value
pub stands-moved : (p : Parts) (s : Snapshot) (class : ℕ) (v : Value) → IsValid p → length s.plan ≡ length p.classes → IsMovable p s class → IsOfDomain p class v → is_free p s class v ≡ true → StandsAs p s (with_value s class (Some v))
stands-moved p s class v valid whole target domain free =
    let at = open_spot p s class v domain free in
    let parts = movable-parts s class target.free in
    let alike = alike-set s.plan class v parts.0 in
    let count = unplaced-alike s.plan (slice_set s.plan class (Some v)) (length-set s.plan class (Some v)) alike in
    record {
      hard = hard-falls p s.closures s.plan s.lists class v at.0 valid (omega (arith, whole, target.within)) at.1.spot at.1.open_one at.1.alone;
      unplaced = omega (arith, count);
      statistics = refl;
      closures = refl;
      locks = refl;
      targets = targets-alike p s (slice_set s.plan class (Some v)) alike;
      locked = others-stay s class (Some v) parts.1;
    }

-- two classes that exchange their places
pub stands-exchanged : (p : Parts) (s : Snapshot) (class : ℕ) (v : Value) (other : ℕ) (to : Value) → IsValid p → length s.plan ≡ length p.classes → IsMovable p s class → IsMovable p s other → IsOfDomain p class v → IsOfDomain p other to
    → is_free p (with_value s other None) class v ≡ true → is_free p (half_exchanged s class v other) other to ≡ true → StandsAs p s (with_value (half_exchanged s class v other) other (Some to))
stands-exchanged p s class v other to valid whole target other_target domain other_domain free other_free =
    let at = open_spot p (with_value s other None) class v domain free in
    let other_at = open_spot p (half_exchanged s class v other) other to other_domain other_free in
    let parts = movable-parts s class target.free in
    let other_parts = movable-parts s other other_target.free in
    let end : List (Option Value) = slice_set (slice_set (slice_set s.plan other None) class (Some v)) other (Some to) in
    let alike : ArePlacedAlike s.plan end = alike-exchange s.plan class v other to parts.0 other_parts.0 in
    let long : length end ≡ length s.plan = omega (
      arith,
      length-set s.plan other None,
      length-set (slice_set s.plan other None) class (Some v),
      length-set (slice_set (slice_set s.plan other None) class (Some v)) other (Some to),
    ) in
    let count = unplaced-alike s.plan end long alike in
    record {
      hard = exchange-falls p s.closures s.plan s.lists class v at.0 other to other_at.0 valid (omega (arith, whole, target.within)) (omega (arith, whole, other_target.within)) at.1.spot other_at.1.spot at.1.open_one at.1.alone other_at.1.open_one other_at.1.alone;
      unplaced = omega (arith, count);
      statistics = refl;
      closures = refl;
      locks = refl;
      targets = targets-alike p s end alike;
      locked = λ d. stay-next s (half_exchanged s class v other) (with_value (half_exchanged s class v other) other (Some to)) d
          (stay-next s (with_value s other None) (half_exchanged s class v other) d (others-stay s other None other_parts.1 d) (others-stay (with_value s other None) class (Some v) parts.1 d))
          (others-stay (half_exchanged s class v other) other (Some to) other_parts.1 d);
    }

pub stands-same : (p : Parts) (s : Snapshot) → StandsAs p s s
stands-same p s = record { hard = omega arith; unplaced = omega arith; statistics = refl; closures = refl; locks = refl; targets = refl; locked = λ class is. (refl, is) }

pub stands-next : (p : Parts) (s t u : Snapshot) → StandsAs p s t → StandsAs p t u → StandsAs p s u
stands-next p s t u one two = record {
  hard = omega (arith, one.hard, two.hard);
  unplaced = omega (arith, one.unplaced, two.unplaced);
  statistics = two.statistics ∙ one.statistics;
  closures = two.closures ∙ one.closures;
  locks = two.locks ∙ one.locks;
  targets = two.targets ∙ one.targets;
  locked = λ class. stay-next s t u class (one.locked class) (two.locked class);
}
