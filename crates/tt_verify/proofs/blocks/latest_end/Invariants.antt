use Rattle.std.proofs.Common.{◌≡◌, drop, max}
use Rattle.tt_measure.specs.Blocks.{latest_end}
use Rattle.tt_verify.proofs.blocks.latest_end.Given as goal

abbrev pub invariant-loop-spot : goal.invariant-loop-spot
invariant-loop-spot l = max l.latest (latest_end (drop l.spot-index l.spots)) ≡ latest_end l.spots
