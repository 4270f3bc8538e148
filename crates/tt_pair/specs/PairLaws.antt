-- Proof. The laws of violated pairs, for each kind alike.
use Rattle.std.proofs.Common.{◌≡◌, ℕ, ◌+◌, ◌-◌, ◌*◌, ◌/◌, ◌<◌, ◌≤◌, ◌^◌, List, [], ◌∷◌, Option, Some, None, length, take, pos, refl, ap, zero, suc, arith, cond}
use Rattle.std.specs.Prelude.{◌+ℤ◌, slice_set, replicate}
use Rattle.std.proofs.lemmas.List.Sums.{sum_by-cons}
use Rattle.tt_base.proofs.AmongLemmas.{twice-pairs}
use Rattle.tt_bits.specs.declared.pairs.PairKind.{PairKind}
use Rattle.tt_bits.specs.declared.times.Spot.{Spot}
use Rattle.tt_travel.specs.Table.{Table}
use Rattle.tt_base.specs.Limits.{most_members}
use Rattle.tt_bits.specs.Spots.{IsEmptyAt, placed}
use Rattle.tt_bits.proofs.SpotLemmas.{length-placed, count-placed-set}
use Rattle.tt_pair.specs.ViolatedPairs.{is_violated, violated_pairs, violated_with}

-- nobody placed: no pair
pub violated_pairs-empty : (kind : PairKind) (t : Table) (n : ℕ) → violated_pairs kind t (replicate n None) ≡ 0
violated_pairs-empty kind t zero = refl
violated_pairs-empty kind t (suc n) = violated_pairs-empty kind t n

-- a spot in an empty place adds its pairs
pub violated_pairs-set : (kind : PairKind) (t : Table) (h : List (Option Spot)) (p : ℕ) (x : Spot) → IsEmptyAt h p
    → violated_pairs kind t (slice_set h p (Some x)) ≡ violated_pairs kind t h + violated_with kind t h p x
violated_pairs-set kind t [] p x e = absurd (omega (arith, e.0))
violated_pairs-set kind t (None ∷ h) zero x e = omega arith
violated_pairs-set kind t (Some y ∷ h) zero x e = absurd (cc e.1)
violated_pairs-set kind t (None ∷ h) (suc p) x e =
    let rest : IsEmptyAt h p = (omega (arith, e.0), e.1) in violated_pairs-set kind t h p x rest
violated_pairs-set kind t (Some y ∷ h) (suc p) x e =
    let rest : IsEmptyAt h p = (omega (arith, e.0), e.1) in
    let first = sum_by-cons (λ z. cond (is_violated kind t z x) 1 0) y (placed (take p h)) in
    omega (arith, violated_pairs-set kind t h p x rest, count-placed-set (is_violated kind t y) h p x rest, first)

pub violated_pairs-split : (kind : PairKind) (t : Table) (h : List (Option Spot)) (p : ℕ) (x : Spot) → IsEmptyAt h p
    → pos (violated_pairs kind t (slice_set h p (Some x))) ≡ pos (violated_pairs kind t h) +ℤ pos (violated_with kind t h p x)
violated_pairs-split kind t h p x e = ap pos (violated_pairs-set kind t h p x e)

-- no more pairs than the members have
pub violated_pairs-most : (kind : PairKind) (t : Table) (h : List (Option Spot)) → violated_pairs kind t h ≤ length h * (length h - 1) / 2
violated_pairs-most kind t h = omega (arith, twice-pairs (is_violated kind t) (placed h) (length h) (length-placed h))

-- so many members as a rule has make few pairs
pub few_pairs : (n : ℕ) → n ≤ most_members → n * (n - 1) / 2 < 2 ^ 62
few_pairs n few = let product : n * (n - 1) ≤ most_members * most_members = grind arith in omega arith
