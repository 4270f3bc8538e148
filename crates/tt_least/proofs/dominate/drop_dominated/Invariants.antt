use Rattle.tt_least.proofs.ExchangeLemmas.{IsPruned}
use Rattle.tt_least.proofs.dominate.drop_dominated.Given as goal

abbrev pub invariant-loop-part : goal.invariant-loop-part
invariant-loop-part l = IsPruned l.table l.fn.left l.left
