use Rattle.tt_least.specs.Prices.{AreGroups}
use Rattle.tt_least.proofs.change.change_price.Given as goal

abbrev pub invariant-loop-part : goal.invariant-loop-part
invariant-loop-part l = AreGroups l.table l.groups
