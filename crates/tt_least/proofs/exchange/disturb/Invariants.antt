use Rattle.tt_least.specs.Choices.{IsChoice}
use Rattle.tt_least.proofs.exchange.disturb.Given as goal

abbrev pub invariant-loop : goal.invariant-loop
invariant-loop l = IsChoice l.table.subparts.now l.choice
