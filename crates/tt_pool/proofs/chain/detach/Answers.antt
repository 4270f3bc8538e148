use Rattle.std.proofs.Common.{◌-◌, refl, arith}
use Rattle.tt_pool.proofs.Paths.{on_way, way_within, detached, detached_others, detached_first, not_first_node}
use Rattle.tt_pool.proofs.chain.detach.Goals as goal

pub bounds-nodes-node : goal.bounds-nodes-node
bounds-nodes-node g c =
    rw c.requires.1.node_is (on_way c.args.nodes.now c.args.chain.len c.args.chain.first.0 g.at c.requires.0 c.requires.1.within)

pub bounds-nodes-before : goal.bounds-nodes-before
bounds-nodes-before g c =
    let some = not_first_node c.args.nodes.now c.args.node.0 g.at c.args.chain.first.0 c.requires.1.node_is c.if-node-chain.false in
    way_within c.args.nodes.now c.args.before.0 (g.at - 1) c.args.chain.len c.args.chain.first.0 (c.requires.1.before_is some)
    c.requires.0 (omega (arith, c.requires.1.within))

pub returns-then-node-chain-clause-chain : goal.returns-then-node-chain-clause-chain
returns-then-node-chain-clause-chain g c =
    detached_first c.args.nodes.now c.args.node.0 g.at c.args.chain.len c.args.chain.first.0 c.requires.1.within c.requires.1.node_is
    c.if-node-chain.true c.requires.0

pub returns-else-node-chain-clause-chain : goal.returns-else-node-chain-clause-chain
returns-else-node-chain-clause-chain g c =
    let some = not_first_node c.args.nodes.now c.args.node.0 g.at c.args.chain.first.0 c.requires.1.node_is c.if-node-chain.false in
    detached c.args.nodes.now c.args.before.0 c.args.node.0 _ g.at c.args.chain.len c.args.chain.first.0
    some c.requires.1.within (c.requires.1.before_is some) c.requires.1.node_is refl c.requires.0

pub returns-else-node-chain-clause-others : goal.returns-else-node-chain-clause-others
returns-else-node-chain-clause-others g c =
    let some = not_first_node c.args.nodes.now c.args.node.0 g.at c.args.chain.first.0 c.requires.1.node_is c.if-node-chain.false in
    detached_others c.args.nodes.now c.args.before.0 _ g.at c.args.chain.len c.args.chain.first.0
    some c.requires.1.within (c.requires.1.before_is some)
