use Rattle.tt_least.specs.Prices.{AreGroups}
use Rattle.tt_least.proofs.gather.join_before.Given as goal

abbrev pub invariant-loop-seed : goal.invariant-loop-seed
invariant-loop-seed l = AreGroups l.table l.groups
