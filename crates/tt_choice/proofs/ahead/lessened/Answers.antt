use Rattle.std.proofs.Common.{◌+◌, arith, sym, ◌∙◌, count_by}
use Rattle.tt_choice.specs.Standings.{situation_in}
use Rattle.tt_choice.proofs.AheadLemmas.{full_sure, fewer_sure, sure_of}
use Rattle.tt_choice.proofs.ahead.lessened.Goals as goal

pub returns-then-not-has_seat-clause-sure : goal.returns-then-not-has_seat-clause-sure
returns-then-not-has_seat-clause-sure c =
    full_sure (situation_in c.args.standing.now) c.args.class c.args.rest.now c.args.least (sym c.has_seat.ensures ∙ c.if-not-has_seat.true)

pub returns-clause-sure : goal.returns-clause-sure
returns-clause-sure c =
    let s = situation_in c.args.standing.now in
    fewer_sure s c.args.class c.args.rest.now (count_by (s.conflicts c.args.class) s.already + c.sure_across-across.result) c.min.result
    (omega (arith, c.min.ensures, c.pairs_with_already.ensures)) (sure_of s c.args.class c.args.rest.now c.sure_across-across.result c.sure_across-across.ensures.across)
