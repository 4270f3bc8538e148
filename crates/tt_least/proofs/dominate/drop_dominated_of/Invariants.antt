use Rattle.tt_least.proofs.ExchangeLemmas.{IsPruned}
use Rattle.tt_least.proofs.dominate.drop_dominated_of.Given as goal

abbrev pub invariant-loop-class : goal.invariant-loop-class
invariant-loop-class l = IsPruned l.table l.fn.left l.left
