-- Proof. What a group of a pair rule is by its fields.
use Rattle.std.specs.Prelude.{ℕ, List, Option, length}
use Rattle.tt_bits.specs.declared.times.Spot.{Spot}
use Rattle.tt_travel.specs.Table.{Table}
use Rattle.tt_pair.specs.declared.PairGroup.{PairGroup}
use Rattle.tt_pair.specs.PairShapes.{pair_shape}
use Rattle.tt_pair.specs.ViolatedPairs.{PairAmountIsKept}

-- what each member has, a spot or none
abbrev pub held_of : PairGroup → List (Option Spot)
held_of g = g.held.items

-- the kind, its slots, the number of members and the weeks
abbrev pub shape_of : PairGroup → List ℕ
shape_of g = pair_shape g.kind (length g.held.items)

-- what is kept is what the definitions give for the spots held and the table
abbrev pub IsOfTable : PairGroup → Table → Type 0
IsOfTable g t = PairAmountIsKept g.kind t g.held.items g.amount
