use Rattle.std.proofs.Common.{arith, sym, ◌∙◌}
use Rattle.tt_choice.specs.Open.{may_come}
use Rattle.tt_choice.specs.Standings.{situation_in}
use Rattle.tt_choice.proofs.OpenLemmas.{any-next, any-here, any-end}
use Rattle.tt_choice.proofs.ahead.can_be_filled.Goals as goal

pub loop-class-preserved : goal.loop-class-preserved
loop-class-preserved c =
    let test = may_come (situation_in c.args.standing.now) c.args.front.now c.args.rest.now in
    any-next test c.loop-class.class c.args.span.after (omega arith) (sym c.may_come.ensures ∙ c.if-may_come.false) ∙ c.loop-class.invariant

pub returns-then-may_come : goal.returns-then-may_come
returns-then-may_come c =
    let test = may_come (situation_in c.args.standing.now) c.args.front.now c.args.rest.now in
    sym (any-here test c.loop-class.class c.args.span.after (omega arith) (sym c.may_come.ensures ∙ c.if-may_come.true)) ∙ c.loop-class.invariant

pub returns : goal.returns
returns c =
    let test = may_come (situation_in c.args.standing.now) c.args.front.now c.args.rest.now in
    sym (any-end test c.loop-class.class c.args.span.after (omega arith)) ∙ c.loop-class.invariant
