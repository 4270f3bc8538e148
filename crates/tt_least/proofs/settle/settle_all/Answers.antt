use Rattle.std.proofs.Common.{arith}
use Rattle.tt_least.specs.Searches.{found_in}
use Rattle.tt_least.proofs.LeastLemmas.{all-settled, step-settled}
use Rattle.tt_least.proofs.settle.settle_all.Goals as goal

pub loop-part-preserved : goal.loop-part-preserved
loop-part-preserved c = record {
  ready = c.settle.ensures.ready;
  found = c.settle.ensures.found;
  settled = step-settled c.args.table.now c.loop-part.part c.args.limit c.args.search.now.left.items c.loop-part.search c.settle.new.search c.requires.table
      (omega arith) c.loop-part.invariant.settled c.settle.ensures.settled;
}

pub returns-clause-least : goal.returns-clause-least
returns-clause-least c =
    all-settled c.args.table.now c.loop-part.part c.args.limit c.args.search.now.left.items c.loop-part.search.left.items (found_in c.args.table.now c.loop-part.search)
    (omega arith) c.loop-part.invariant.settled c.loop-part.invariant.found c.requires.fewest
