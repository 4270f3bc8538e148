use Rattle.std.proofs.Common.{arith}
use Rattle.tt_pool.proofs.Paths.{on_way}
use Rattle.tt_pool.proofs.places.place_at.Goals as goal

pub node_after-before-requires : goal.node_after-before-requires
node_after-before-requires c k le = on_way c.args.nodes.now c.args.chain.len c.args.chain.first.0 k c.requires.chain (omega arith)
