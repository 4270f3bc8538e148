-- Clashes while classes come and go.
use Rattle.std.proofs.Common.{◌≡◌, ◌∙◌, ℕ, ◌+◌, ◌-◌, ◌*◌, ◌<◌, ◌≤◌, ◌^◌, Bool, cond, List, [], ◌∷◌, Option, Some, None, length, count_by, refl, sym, ap, zero, suc, arith}
use Rattle.std.specs.Prelude.{slice_set, replicate}
use Rattle.std.proofs.lemmas.List.Sums.{sum_by-cons, count_by-le-length}
use Rattle.std.proofs.lemmas.List.{length-replicate, length-set}
use Rattle.tt_base.proofs.AmongLemmas.{twice-pairs}
use Rattle.tt_base.proofs.ListLemmas.{equal_turned}
use Rattle.tt_bits.specs.declared.times.Spot.{Spot}
use Rattle.tt_bits.specs.Pairs.{is_one_room}
use Rattle.tt_bits.specs.Spots.{spot_at, IsEmptyAt, placed}
use Rattle.tt_bits.proofs.TimeLemmas.{overlaps-sym}
use Rattle.tt_bits.proofs.SpotLemmas.{set_back, set_empty, emptied, full_within, length-placed, count-placed-set}
use Rattle.tt_occupancy.specs.Kept.{ClashesAreCounted}
use Rattle.tt_occupancy.specs.Clashes.{clash, clash_pairs, clash_count}

is_one_room-sym : (a b : Option ℕ) → is_one_room a b ≡ is_one_room b a
is_one_room-sym (Some a) (Some b) = equal_turned a b
is_one_room-sym (Some a) None = refl
is_one_room-sym None (Some b) = refl
is_one_room-sym None None = refl

-- clashing goes both ways
pub clash-sym : (a b : Spot) → clash a b ≡ clash b a
unfolding clash
clash-sym a b = rw (is_one_room-sym a.room b.room, overlaps-sym a.time b.time) refl

-- nobody placed: no pair
pub clash_pairs-empty : (n : ℕ) → clash_pairs (replicate n None) ≡ 0
clash_pairs-empty zero = refl
clash_pairs-empty (suc n) = clash_pairs-empty n

-- a spot in an empty place adds its clashes
pub clash_pairs-set : (h : List (Option Spot)) (p : ℕ) (x : Spot) → IsEmptyAt h p
    → clash_pairs (slice_set h p (Some x)) ≡ clash_pairs h + count_by (clash x) (placed h)
clash_pairs-set [] p x e = absurd (omega (arith, e.0))
clash_pairs-set (None ∷ h) zero x e = omega arith
clash_pairs-set (Some y ∷ h) zero x e = absurd (cc e.1)
clash_pairs-set (None ∷ h) (suc p) x e =
    let rest : IsEmptyAt h p = (omega (arith, e.0), e.1) in clash_pairs-set h p x rest
clash_pairs-set (Some y ∷ h) (suc p) x e =
    let rest : IsEmptyAt h p = (omega (arith, e.0), e.1) in
    let first = sum_by-cons (λ z. cond (clash x z) 1 0) y (placed h) in
    let turned = ap {B = ℕ} (λ (b : Bool). cond b 1 0) (clash-sym x y) in
    omega (arith, clash_pairs-set h p x rest, count-placed-set (clash y) h p x rest, first, turned)

-- the clashes of a class that is placed are among all
pub clash_pairs-full : (h : List (Option Spot)) (p : ℕ) (x : Spot) → spot_at h p ≡ Some x
    → clash_pairs h ≡ clash_pairs (slice_set h p None) + clash_count h x p
clash_pairs-full h p x full =
    let within = full_within h p (rw full refl) in
    sym (ap clash_pairs (set_back h p x full)) ∙ clash_pairs-set (slice_set h p None) p x (emptied h p within)

pub clash_count-empty : (h : List (Option Spot)) (p : ℕ) (x : Spot) → IsEmptyAt h p → clash_count h x p ≡ count_by (clash x) (placed h)
clash_count-empty h p x e = ap (λ l. count_by (clash x) (placed l)) (set_empty h p e)

pub few_clashes : (h : List (Option Spot)) → length h < 2 ^ 32 → clash_pairs h < 2 ^ 63
few_clashes h few =
    let product : length h * (length h - 1) ≤ 4294967295 * 4294967295 = grind arith in omega (arith, twice-pairs clash (placed h) (length h) (length-placed h), product)

-- what is kept where nobody is placed
pub ClashesAreCounted-new : (n : ℕ) → n < 2 ^ 32 → ClashesAreCounted (replicate n None) 0
ClashesAreCounted-new n all = record {
  few = omega (arith, length-replicate {A = Option Spot} n None);
  counted = sym (clash_pairs-empty n);
}

-- what is kept when a class comes
pub ClashesAreCounted-put : (h : List (Option Spot)) (p clashes more : ℕ) (x : Spot) → more ≡ clash_count h x p
    → ClashesAreCounted h clashes → IsEmptyAt h p → (clashes + more < 2 ^ 64) × ClashesAreCounted (slice_set h p (Some x)) (clashes + more)
ClashesAreCounted-put h p clashes more x is kept empty =
    let now : clashes + more ≡ clash_pairs (slice_set h p (Some x)) = omega (arith, kept.counted, is, clash_count-empty h p x empty, clash_pairs-set h p x empty) in
    let few : length (slice_set h p (Some x)) < 2 ^ 32 = omega (arith, kept.few, length-set h p (Some x)) in
    (omega (arith, now, few_clashes (slice_set h p (Some x)) few), record { few = few; counted = now })

-- what is kept when a class goes
pub ClashesAreCounted-take : (h : List (Option Spot)) (p clashes less : ℕ) (x : Spot) → less ≡ clash_count h x p
    → ClashesAreCounted h clashes → spot_at h p ≡ Some x → (less ≤ clashes) × ClashesAreCounted (slice_set h p None) (clashes - less)
ClashesAreCounted-take h p clashes less x is kept full =
    let all = clash_pairs-full h p x full in (
      omega (arith, kept.counted, is, all),
      record {
        few = omega (arith, kept.few, length-set h p None);
        counted = omega (arith, kept.counted, is, all);
      },
    )

-- no more clashes than classes
pub few_clash_count : (h : List (Option Spot)) (x : Spot) (except : ℕ) → clash_count h x except ≤ length h
few_clash_count h x except =
    omega (arith, count_by-le-length (clash x) (placed (slice_set h except None)), length-placed (slice_set h except None), length-set h except None)
