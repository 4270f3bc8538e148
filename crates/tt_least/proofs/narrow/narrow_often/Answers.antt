use Rattle.tt_least.proofs.NarrowLemmas.{node-narrowed}
use Rattle.tt_least.proofs.narrow.narrow_often.Goals as goal

pub narrow_by-requires-clause-node : goal.narrow_by-requires-clause-node
narrow_by-requires-clause-node c = node-narrowed c.args.table.now c.args.limit c.args.level.now c.loop.level c.loop.invariant.narrowed c.requires.node
