use Rattle.std.proofs.Common.{◌≡◌, ◌≤◌, ◌+◌, [], length}
use Rattle.tt_measure.specs.Blocks.{blocks_after}
use Rattle.tt_verify.proofs.blocks.block_count.Given as goal

abbrev pub invariant-loop-rest : goal.invariant-loop-rest
invariant-loop-rest l = record {
  count : l.count + length (blocks_after l.gap [] l.rest) ≡ length (blocks_after l.gap [] l.cell);
  few : l.count + length l.rest ≤ length l.cell;
}

abbrev pub decreases-loop-rest : goal.decreases-loop-rest
decreases-loop-rest l = length l.rest
