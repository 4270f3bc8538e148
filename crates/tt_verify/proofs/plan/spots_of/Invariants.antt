use Rattle.tt_verify.proofs.PlanLemmas.{AreSpotsTo}
use Rattle.tt_verify.proofs.plan.spots_of.Given as goal

abbrev pub invariant-loop-class : goal.invariant-loop-class
invariant-loop-class l = AreSpotsTo l.problem l.plan l.class l.spots.items
