use Rattle.std.proofs.Common.{◌+◌, arith, sym, ◌∙◌}
use Rattle.tt_choice.specs.Standings.{situation_in}
use Rattle.tt_choice.proofs.VainLemmas.{closed-vain, many-vain, across-zero}
use Rattle.tt_choice.proofs.course.leads_on.Goals as goal

pub returns-then-not-is_fewer : goal.returns-then-not-is_fewer
returns-then-not-is_fewer c = λ e.
    let s = situation_in c.args.standing.now in
    many-vain s c.args.found c.args.front.now c.args.rest.now c.args.ahead 0 (c.args.pairs + c.args.ahead) c.requires.sure (across-zero s c.args.front.now c.args.rest.now)
    (omega (arith, c.requires.pairs)) (sym c.is_fewer.ensures ∙ c.if-not-is_fewer.true)

pub returns-then-not-can_all_be_filled : goal.returns-then-not-can_all_be_filled
returns-then-not-can_all_be_filled c = λ e.
    closed-vain (situation_in c.args.standing.now) c.args.found c.args.front.now c.args.rest.now (sym c.can_all_be_filled.ensures ∙ c.if-not-can_all_be_filled.true)

pub returns : goal.returns
returns c = λ e.
    let s = situation_in c.args.standing.now in
    many-vain s c.args.found c.args.front.now c.args.rest.now c.args.ahead c.sure_across-across.result (c.args.pairs + c.args.ahead + c.sure_across-across.result) c.requires.sure c.sure_across-across.ensures.across
    (omega (arith, c.requires.pairs)) (sym c.is_fewer-2.ensures ∙ e)
