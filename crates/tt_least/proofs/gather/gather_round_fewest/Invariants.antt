use Rattle.tt_least.specs.Prices.{AreGroups}
use Rattle.tt_least.proofs.gather.gather_round_fewest.Given as goal

abbrev pub invariant-loop : goal.invariant-loop
invariant-loop l = AreGroups l.table l.groups
