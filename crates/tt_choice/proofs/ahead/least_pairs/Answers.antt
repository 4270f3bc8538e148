use Rattle.std.proofs.Common.{arith}
use Rattle.tt_choice.specs.Standings.{situation_in}
use Rattle.tt_choice.proofs.AheadLemmas.{least-more}
use Rattle.tt_choice.proofs.ahead.least_pairs.Goals as goal

pub loop-class-preserved : goal.loop-class-preserved
loop-class-preserved c =
    let before = c.loop-class.invariant in
    record {
      each = least-more (situation_in c.args.standing.now) c.args.span.first c.loop-class.class c.args.rest.now c.loop-class.least c.lessened-least.result before.each c.lessened-least.ensures.less c.lessened-least.ensures.sure;
      few = omega (arith, before.few, c.lessened-least.ensures.less);
    }

pub returns-clause-least : goal.returns-clause-least
returns-clause-least c = record { each = λ d from lt. c.loop-class.invariant.each d from (omega arith) }
