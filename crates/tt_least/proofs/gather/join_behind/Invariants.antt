use Rattle.std.proofs.Common.{◌-◌, ◌≤◌}
use Rattle.tt_least.specs.Prices.{AreGroups}
use Rattle.tt_least.proofs.gather.join_behind.Given as goal

abbrev pub invariant-loop-seed : goal.invariant-loop-seed
invariant-loop-seed l = record {
  groups : AreGroups l.table l.groups;
  within : l.seed ≤ l.table.count;
}

abbrev pub decreases-loop-seed : goal.decreases-loop-seed
decreases-loop-seed l = l.seed - l.place
