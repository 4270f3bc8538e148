use Rattle.std.proofs.Common.{get_or, arith}
use Rattle.std.proofs.lemmas.Option.{slice_get-get_or}
use Rattle.tt_least.proofs.ChoiceLemmas.{choice-long, choice-set, in-bounds}
use Rattle.tt_least.proofs.LeastLemmas.{inside-read, no-span}
use Rattle.tt_least.proofs.exchange.descend_once.Goals as goal

pub bounds-choice-part : goal.bounds-choice-part
bounds-choice-part c = omega (arith, c.loop-part-test.true, choice-long c.args.table.now.subparts.now c.loop-part.choice c.loop-part.invariant)

pub bounds-choice-part-in-loop-part : goal.bounds-choice-part-in-loop-part
bounds-choice-part-in-loop-part c = omega (arith, c.loop-part-test.true, choice-long c.args.table.now.subparts.now c.loop-part.choice c.loop-part.invariant)

pub loop-part-preserved : goal.loop-part-preserved
loop-part-preserved c =
    let subparts = c.args.table.now.subparts.now in
    let part = c.loop-part.part in
    let class = c.cheapest-class.result in
    let span = get_or subparts part no-span in
    let bounds = in-bounds class span (inside-read c.args.table.now part class no-span c.loop-part-test.true c.cheapest-class.ensures) in
    choice-set subparts c.loop-part.choice part class span c.loop-part.invariant (slice_get-get_or subparts part no-span c.loop-part-test.true) bounds.0 bounds.1
