use Rattle.std.proofs.Common.{◌∙◌, length, ap, arith}
use Rattle.tt_score.proofs.PlanLemmas.{length-spots_from}
use Rattle.tt_verify.proofs.PlanLemmas.{spots_begin, spots_done, spots_done_fit, spots_next}
use Rattle.tt_verify.proofs.plan.spots_of.Goals as goal

pub loop-class-init : goal.loop-class-init
loop-class-init c = rw c.in_ok-spots.ensures.items (spots_begin c.args.problem.now c.args.plan.now)

pub loop-class-preserved : goal.loop-class-preserved
loop-class-preserved c =
    rw c.in_ok-push.ensures.items
    (spots_next c.args.problem.now c.args.plan.now c.loop-class.class c.loop-class.spots.items c.spot_of.result _ c.loop-class.invariant c.loop-class-test.true c.spot_of.ensures.spot c.spot_of.ensures.fits)

pub returns-clause-whole : goal.returns-clause-whole
returns-clause-whole c =
    let p = c.args.problem.now in
    let plan = c.args.plan.now in
    ap length (spots_done p plan _ _ c.loop-class.invariant (omega arith)) ∙ length-spots_from p 0 plan ∙ c.requires.whole

pub returns-clause-fit : goal.returns-clause-fit
returns-clause-fit c = spots_done_fit c.args.problem.now c.args.plan.now _ _ c.loop-class.invariant (omega arith)
