use Rattle.tt_least.specs.Prices.{AreGroups}
use Rattle.tt_least.proofs.gather.gather_from_first.Given as goal

abbrev pub invariant-loop-place : goal.invariant-loop-place
invariant-loop-place l = AreGroups l.table l.groups
