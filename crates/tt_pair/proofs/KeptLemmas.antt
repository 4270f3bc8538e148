-- What a group of a pair rule keeps while members come and go.
use Rattle.std.proofs.Common.{◌≡◌, ◌∙◌, ℕ, ◌+◌, ◌-◌, ◌≤◌, List, Option, Some, None, suc, refl, sym, ap, arith}
use Rattle.std.specs.Prelude.{slice_set, replicate, IfSome}
use Rattle.std.proofs.lemmas.List.{take-set, drop-set-lt}
use Rattle.std.proofs.lemmas.List.Elements.{All-set, All-replicate}
use Rattle.tt_bits.specs.declared.pairs.PairKind.{PairKind}
use Rattle.tt_bits.specs.declared.times.Spot.{Spot}
use Rattle.tt_travel.specs.Table.{Table, IsRoomOf}
use Rattle.tt_bits.specs.Spots.{spot_at, IsEmptyAt}
use Rattle.tt_bits.proofs.SpotLemmas.{set_back, emptied, full_within}
use Rattle.tt_pair.specs.ViolatedPairs.{violated_pairs, violated_with, PairAmountIsKept}
use Rattle.tt_pair.specs.PairLaws.{violated_pairs-empty, violated_pairs-set}

-- the pairs with a spot don't depend on what its place has
pub violated_with-set : (kind : PairKind) (t : Table) (h : List (Option Spot)) (p : ℕ) (s : Option Spot) (x : Spot)
    → violated_with kind t (slice_set h p s) p x ≡ violated_with kind t h p x
violated_with-set kind t h p s x = rw (take-set, drop-set-lt (suc p) h p s (omega arith)) refl

-- what a group keeps when a member gets a spot
pub PairAmountIsKept-put : (kind : PairKind) (t : Table) (h : List (Option Spot)) (p amount more : ℕ) (x : Spot) → more ≡ violated_with kind t h p x
    → PairAmountIsKept kind t h amount → IsEmptyAt h p → IsRoomOf t x.room → PairAmountIsKept kind t (slice_set h p (Some x)) (amount + more)
PairAmountIsKept-put kind t h p amount more x is kept empty room = record {
  counted = omega (arith, is, violated_pairs-set kind t h p x empty, kept.counted);
  rooms = All-set (λ s. IfSome s (λ y. IsRoomOf t y.room)) h p (Some x) room kept.rooms;
}

-- the pairs of a member that has a spot are among all pairs
violated_pairs-full : (kind : PairKind) (t : Table) (h : List (Option Spot)) (p : ℕ) (x : Spot) → spot_at h p ≡ Some x
    → violated_pairs kind t h ≡ violated_pairs kind t (slice_set h p None) + violated_with kind t h p x
violated_pairs-full kind t h p x full =
    let within = full_within h p (rw full refl) in
    sym (ap (violated_pairs kind t) (set_back h p x full))
    ∙ violated_pairs-set kind t (slice_set h p None) p x (emptied h p within)
    ∙ ap (λ n. violated_pairs kind t (slice_set h p None) + n) (violated_with-set kind t h p None x)

-- what a group keeps when a member loses its spot
pub PairAmountIsKept-take : (kind : PairKind) (t : Table) (h : List (Option Spot)) (p amount less : ℕ) (x : Spot) → less ≡ violated_with kind t h p x
    → PairAmountIsKept kind t h amount → spot_at h p ≡ Some x → (less ≤ amount) × PairAmountIsKept kind t (slice_set h p None) (amount - less)
PairAmountIsKept-take kind t h p amount less x is kept full =
    let all = violated_pairs-full kind t h p x full in (
      omega (arith, is, all, kept.counted),
      record {
        counted = omega (arith, is, all, kept.counted);
        rooms = All-set (λ s. IfSome s (λ y. IsRoomOf t y.room)) h p None tt kept.rooms;
      },
    )

-- a new group keeps what it should for each table
pub PairAmountIsKept-new : (kind : PairKind) (t : Table) (n : ℕ) → PairAmountIsKept kind t (replicate n None) 0
PairAmountIsKept-new kind t n = record {
  counted = sym (violated_pairs-empty kind t n);
  rooms = All-replicate (λ s. IfSome s (λ x. IsRoomOf t x.room)) n None tt;
}
