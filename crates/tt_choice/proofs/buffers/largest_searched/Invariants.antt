use Rattle.std.proofs.Common.{◌≤◌}
use Rattle.tt_choice.proofs.buffers.largest_searched.Given as goal

abbrev pub invariant-loop-config : goal.invariant-loop-config
invariant-loop-config l = record {
  classes : l.largest.classes ≤ 512;
  parts : l.largest.parts ≤ 512;
}
