use Rattle.std.proofs.Common.{◌≤◌}
use Rattle.tt_least.specs.Prices.{AreGroups}
use Rattle.tt_least.proofs.gather.gather_from_last.Given as goal

abbrev pub invariant-loop-place : goal.invariant-loop-place
invariant-loop-place l = record {
  groups : AreGroups l.table l.groups;
  within : l.place ≤ l.table.count;
}

abbrev pub decreases-loop-place : goal.decreases-loop-place
decreases-loop-place l = l.place
