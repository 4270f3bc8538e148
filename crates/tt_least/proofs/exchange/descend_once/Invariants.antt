use Rattle.tt_least.specs.Choices.{IsChoice}
use Rattle.tt_least.proofs.exchange.descend_once.Given as goal

abbrev pub invariant-loop-part : goal.invariant-loop-part
invariant-loop-part l = IsChoice l.table.subparts.now l.choice
