use Rattle.std.proofs.Common.{arith}
use Rattle.std.proofs.lemmas.List.{length-set}
use Rattle.tt_pool.proofs.EndLemmas.{list_is_chain, behind-fits, behind-within, free_within, backed-put}
use Rattle.tt_pool.proofs.chain.put.Goals as goal

pub node_at-behind-requires-clause-chain : goal.node_at-behind-requires-clause-chain
node_at-behind-requires-clause-chain c =
    list_is_chain c.args.nodes.now c.args.lists.now c.args.free c.args.list c.requires.pool c.requires.list

pub bounds-backs-free : goal.bounds-backs-free
bounds-backs-free c =
    free_within c.args.nodes.now c.args.lists.now c.args.free c.args.backs.now c.requires.pool c.requires.backs c.requires.spare

pub offset_bounds-backs-behind : goal.offset_bounds-backs-behind
offset_bounds-backs-behind c =
    let le =
    behind-fits c.args.nodes.now c.args.lists.now c.args.free c.args.backs.now c.args.list c.args.place.at c.node_at-behind.result
    (record { pool = c.requires.pool; backed = c.requires.backs; within = c.requires.list; at_within = c.requires.place.within; is = c.node_at-behind.ensures }) in
    let few = c.requires.pool.few in
    let fits = c.ranges.list.fits in
    omega arith

pub bounds-backs-behind : goal.bounds-backs-behind
bounds-backs-behind c =
    rw length-set
    (behind-within c.args.nodes.now c.args.lists.now c.args.free c.args.backs.now c.args.list c.args.place.at c.node_at-behind.result
    (record { pool = c.requires.pool; backed = c.requires.backs; within = c.requires.list; at_within = c.requires.place.within; is = c.node_at-behind.ensures }))

pub returns-clause-backs : goal.returns-clause-backs
returns-clause-backs c =
    rw (c.put_in.auto.nodes, c.put_in.ensures.chains)
    (backed-put c.args.nodes.now c.args.lists.now c.args.free c.args.backs.now c.args.list c.node_at-behind.result c.args.place
    c.back_from-before.result
    (record { pool = c.requires.pool; backed = c.requires.backs; within = c.requires.list; at_within = c.requires.place.within; is = c.node_at-behind.ensures })
    c.requires.place c.requires.spare c.back_from-before.ensures.first c.back_from-before.ensures.other)
