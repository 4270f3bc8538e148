use Rattle.std.proofs.Common.{◌+◌, arith}
use Rattle.tt_pool.specs.Pools.{chain_at}
use Rattle.tt_pool.proofs.EndLemmas.{taken, taken_stands, taken_within, taken_links, taken_before, taken_behind, behind-fits, behind-within, backed-taken}
use Rattle.tt_pool.proofs.chain.take.Goals as goal

pub behind_node-behind-requires-clause-node : goal.behind_node-behind-requires-clause-node
behind_node-behind-requires-clause-node g c =
    taken_within c.args.nodes.now c.args.lists.now c.args.backs.now c.args.free c.args.list g.at c.args.node
    (taken c.args.nodes.now c.args.lists.now c.args.backs.now c.args.free c.args.list g.at c.args.node c.requires)

pub behind_node-behind-requires-clause-end : goal.behind_node-behind-requires-clause-end
behind_node-behind-requires-clause-end g c =
    (taken_links c.args.nodes.now c.args.lists.now c.args.backs.now c.args.free c.args.list g.at c.args.node
    (taken c.args.nodes.now c.args.lists.now c.args.backs.now c.args.free c.args.list g.at c.args.node c.requires)).0

pub slice_copy_out-before : goal.slice_copy_out-before
slice_copy_out-before g c =
    (taken_links c.args.nodes.now c.args.lists.now c.args.backs.now c.args.free c.args.list g.at c.args.node
    (taken c.args.nodes.now c.args.lists.now c.args.backs.now c.args.free c.args.list g.at c.args.node c.requires)).1

pub offset_bounds-backs-behind : goal.offset_bounds-backs-behind
offset_bounds-backs-behind g c =
    let s = taken c.args.nodes.now c.args.lists.now c.args.backs.now c.args.free c.args.list g.at c.args.node c.requires in
    let is = c.behind_node-behind.ensures (chain_at c.args.lists.now c.args.list) g.at (taken_stands c.args.nodes.now c.args.lists.now c.args.backs.now c.args.free c.args.list g.at c.args.node s) in
    let le = behind-fits c.args.nodes.now c.args.lists.now c.args.free c.args.backs.now c.args.list (g.at + 1) c.behind_node-behind.result
    (taken_behind c.args.nodes.now c.args.lists.now c.args.backs.now c.args.free c.args.list g.at c.behind_node-behind.result c.args.node s is) in
    let few = s.pool.few in
    let fits = c.ranges.list.fits in
    omega arith

pub bounds-backs-behind : goal.bounds-backs-behind
bounds-backs-behind g c =
    let s = taken c.args.nodes.now c.args.lists.now c.args.backs.now c.args.free c.args.list g.at c.args.node c.requires in
    let is = c.behind_node-behind.ensures (chain_at c.args.lists.now c.args.list) g.at (taken_stands c.args.nodes.now c.args.lists.now c.args.backs.now c.args.free c.args.list g.at c.args.node s) in
    behind-within c.args.nodes.now c.args.lists.now c.args.free c.args.backs.now c.args.list (g.at + 1) c.behind_node-behind.result
    (taken_behind c.args.nodes.now c.args.lists.now c.args.backs.now c.args.free c.args.list g.at c.behind_node-behind.result c.args.node s is)

pub take_out-requires : goal.take_out-requires
take_out-requires g c =
    let s = taken c.args.nodes.now c.args.lists.now c.args.backs.now c.args.free c.args.list g.at c.args.node c.requires in
    (s.pool, (s.within, taken_before c.args.nodes.now c.args.lists.now c.args.backs.now c.args.free c.args.list g.at c.args.node s))

pub returns-clause-backs : goal.returns-clause-backs
returns-clause-backs g c =
    let s = taken c.args.nodes.now c.args.lists.now c.args.backs.now c.args.free c.args.list g.at c.args.node c.requires in
    let is = c.behind_node-behind.ensures (chain_at c.args.lists.now c.args.list) g.at (taken_stands c.args.nodes.now c.args.lists.now c.args.backs.now c.args.free c.args.list g.at c.args.node s) in
    rw (c.take_out.auto.nodes, c.take_out.ensures.chains)
    (backed-taken c.args.nodes.now c.args.lists.now c.args.backs.now c.args.free c.args.list g.at c.behind_node-behind.result c.args.node s is)
