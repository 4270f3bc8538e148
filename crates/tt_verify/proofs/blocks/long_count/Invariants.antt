use Rattle.std.proofs.Common.{◌≡◌, ◌≤◌, ◌+◌, [], length, count_by}
use Rattle.tt_measure.specs.Blocks.{blocks_after, is_too_long}
use Rattle.tt_verify.proofs.blocks.long_count.Given as goal

abbrev pub invariant-loop-rest : goal.invariant-loop-rest
invariant-loop-rest l = record {
  count : l.count + count_by (is_too_long l.most) (blocks_after l.gap [] l.rest) ≡ count_by (is_too_long l.most) (blocks_after l.gap [] l.cell);
  few : l.count + length l.rest ≤ length l.cell;
}

abbrev pub decreases-loop-rest : goal.decreases-loop-rest
decreases-loop-rest l = length l.rest
