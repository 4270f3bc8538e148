use Rattle.tt_pool.specs.Pools.{chain_at}
use Rattle.tt_pool.proofs.Moves.{moved_within}
use Rattle.tt_pool.proofs.Paths.{stands_at, first_of}
use Rattle.tt_pool.proofs.PoolLemmas.{free_room, pair_with_free, Changes-taken, IsPool-changed, chains-taken, lists-taken, item-taken}
use Rattle.tt_pool.proofs.chain.take_out.Goals as goal

pub transfer-moved-requires : goal.transfer-moved-requires
transfer-moved-requires g c = (
  pair_with_free c.args.nodes.now c.args.lists.now c.args.free c.args.list c.requires.0 c.requires.1.0,
  (
    c.requires.1.1,
    (
      first_of c.args.nodes.now c.args.free,
      free_room c.args.nodes.now c.args.lists.now c.args.free c.requires.0,
    ),
  ),
)

pub bounds-nodes-node : goal.bounds-nodes-node
bounds-nodes-node g c =
    moved_within c.args.nodes.now c.transfer-moved.new.nodes (chain_at c.args.lists.now c.args.list) c.args.free g.at
    c.args.node.0 (pair_with_free c.args.nodes.now c.args.lists.now c.args.free c.args.list c.requires.0 c.requires.1.0)
    (stands_at _ _ _ _ _ c.requires.1.1) c.requires.1.1.within c.transfer-moved.auto.nodes

pub returns-clause-pool : goal.returns-clause-pool
returns-clause-pool g c =
    IsPool-changed c.args.nodes.now c.transfer-moved.new.nodes c.args.lists.now c.args.free c.args.list c.transfer-moved.result.to
    c.transfer-moved.result.from
    (Changes-taken c.args.nodes.now c.transfer-moved.new.nodes c.args.lists.now c.args.free c.args.list g.at
    c.args.node.0 c.transfer-moved.result.to c.transfer-moved.result.from c.requires.0 c.requires.1.0 c.requires.1.1.within
    c.transfer-moved.auto.nodes c.transfer-moved.ensures.from c.transfer-moved.ensures.to c.transfer-moved.ensures.less
    c.transfer-moved.ensures.more (stands_at _ _ _ _ _ c.requires.1.1) c.transfer-moved.ensures.others)

pub returns-clause-lists : goal.returns-clause-lists
returns-clause-lists g c =
    lists-taken c.args.nodes.now c.transfer-moved.new.nodes c.args.lists.now c.args.free c.args.list g.at c.transfer-moved.result.to
    c.transfer-moved.result.from
    (Changes-taken c.args.nodes.now c.transfer-moved.new.nodes c.args.lists.now c.args.free c.args.list g.at
    c.args.node.0 c.transfer-moved.result.to c.transfer-moved.result.from c.requires.0 c.requires.1.0 c.requires.1.1.within
    c.transfer-moved.auto.nodes c.transfer-moved.ensures.from c.transfer-moved.ensures.to c.transfer-moved.ensures.less
    c.transfer-moved.ensures.more (stands_at _ _ _ _ _ c.requires.1.1) c.transfer-moved.ensures.others)
    c.transfer-moved.ensures.from c.transfer-moved.ensures.items

pub returns-clause-item : goal.returns-clause-item
returns-clause-item g c =
    item-taken c.args.nodes.now c.transfer-moved.new.nodes c.args.lists.now c.args.list g.at c.args.node.0
    c.requires.1.0 c.requires.1.1.within c.transfer-moved.ensures.items (stands_at _ _ _ _ _ c.requires.1.1)

pub returns-clause-chains : goal.returns-clause-chains
returns-clause-chains g c =
    chains-taken c.args.nodes.now c.transfer-moved.new.nodes c.args.lists.now c.args.free c.args.list g.at c.transfer-moved.result.to
    c.transfer-moved.result.from
    (Changes-taken c.args.nodes.now c.transfer-moved.new.nodes c.args.lists.now c.args.free c.args.list g.at
    c.args.node.0 c.transfer-moved.result.to c.transfer-moved.result.from c.requires.0 c.requires.1.0 c.requires.1.1.within
    c.transfer-moved.auto.nodes c.transfer-moved.ensures.from c.transfer-moved.ensures.to c.transfer-moved.ensures.less
    c.transfer-moved.ensures.more (stands_at _ _ _ _ _ c.requires.1.1) c.transfer-moved.ensures.others)
    c.transfer-moved.ensures.from
