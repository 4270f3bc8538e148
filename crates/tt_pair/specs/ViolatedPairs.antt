-- Theorem. The pairs of placed members that break a rule.
use Rattle.std.specs.Prelude.{◌≡◌, ℕ, ◌+◌, Bool, not, List, Option, count_by, take, drop, suc}
use Rattle.tt_base.specs.Among.{pairs_among}
use Rattle.tt_bits.specs.declared.pairs.PairKind.{PairKind}
use Rattle.tt_bits.specs.declared.times.Spot.{Spot}
use Rattle.tt_bits.specs.Pairs.{pair_holds}
use Rattle.tt_bits.specs.Spots.{placed}
use Rattle.tt_measure.specs.Held.{AreRoomsOf}
use Rattle.tt_travel.specs.Table.{Table, between}

-- whether two spots break the rule, a that of the member listed earlier
unfoldable pub is_violated : PairKind → Table → Spot → Spot → Bool
is_violated kind t a b = not (pair_holds kind a b (between t a.room b.room))

-- how many pairs of placed members break the rule, each member with each later one
abbrev pub violated_pairs : PairKind → Table → List (Option Spot) → ℕ
violated_pairs kind t h = pairs_among (is_violated kind t) (placed h)

-- how many placed members break the rule with a spot in an empty place: those before it, and those after it
abbrev pub violated_with : PairKind → Table → List (Option Spot) → ℕ → Spot → ℕ
violated_with kind t h p x =
    count_by (λ y. is_violated kind t y x) (placed (take p h)) + count_by (is_violated kind t x) (placed (drop (suc p) h))

-- what is kept for a table: the number of pairs that break the rule, of spots whose rooms are the table's
pub record PairAmountIsKept (kind : PairKind) (t : Table) (h : List (Option Spot)) (amount : ℕ) : Type 0 where
  pub counted : amount ≡ violated_pairs kind t h
  pub rooms : AreRoomsOf t h
