use Rattle.std.proofs.Common.{arith}
use Rattle.tt_least.proofs.ChoiceLemmas.{span-at}
use Rattle.tt_least.proofs.LeastLemmas.{no-span}
use Rattle.tt_least.proofs.search.next_part.Goals as goal

pub spread_of-spread-requires-clause-from : goal.spread_of-spread-requires-clause-from
spread_of-spread-requires-clause-from c =
    (span-at c.args.table.now c.loop-part.part no-span c.requires.table c.loop-part-test.true).0

pub spread_of-spread-requires-clause-within : goal.spread_of-spread-requires-clause-within
spread_of-spread-requires-clause-within c =
    let span = span-at c.args.table.now c.loop-part.part no-span c.requires.table c.loop-part-test.true in
    omega (arith, span.2, c.requires.table.sized.few)
