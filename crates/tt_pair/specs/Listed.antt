-- Contract. Another member of a rule, listed before or after the one that gets a spot.
use Rattle.std.specs.Prelude.{Bool}
use Rattle.tt_bits.specs.declared.pairs.PairKind.{PairKind}
use Rattle.tt_bits.specs.declared.times.Spot.{Spot}
use Rattle.tt_travel.specs.Table.{Table}
use Rattle.tt_pair.specs.declared.Listed.{Listed}
use Rattle.tt_pair.specs.declared.Listed.TheVariants.{Before, After}
use Rattle.tt_pair.specs.ViolatedPairs.{is_violated}

-- whether the spot y of another member breaks the rule with the spot x: y comes first in the pair where that member is listed before
abbrev pub is_violated_by : PairKind → Table → Spot → Listed → Spot → Bool
is_violated_by kind t x Before y = is_violated kind t y x
is_violated_by kind t x After y = is_violated kind t x y
