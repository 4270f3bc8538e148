use Rattle.std.proofs.Common.{◌≤◌}
use Rattle.tt_least.specs.Prices.{AreGroups}
use Rattle.tt_least.proofs.gather.list_names.Given as goal

abbrev pub invariant-loop-place : goal.invariant-loop-place
invariant-loop-place l = record {
  groups : AreGroups l.table l.groups;
  count : l.count ≤ l.place;
}
