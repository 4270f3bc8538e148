use Rattle.tt_solution.proofs.TextLemmas.{AreWritten}
use Rattle.tt_solution.proofs.text.append_classes.Given as goal

abbrev pub invariant-loop-class : goal.invariant-loop-class
invariant-loop-class l = AreWritten l.problem l.roster.seats l.classes l.fn.text.items l.class l.later l.text.items
