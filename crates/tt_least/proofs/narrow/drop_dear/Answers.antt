use Rattle.tt_least.proofs.NarrowLemmas.{node-narrowed}
use Rattle.tt_least.proofs.narrow.drop_dear.Goals as goal

pub drop_dear_of-requires-clause-node : goal.drop_dear_of-requires-clause-node
drop_dear_of-requires-clause-node c = node-narrowed c.args.table.now c.args.limit c.args.level.now c.loop-part.level c.loop-part.invariant.narrowed c.requires.node
