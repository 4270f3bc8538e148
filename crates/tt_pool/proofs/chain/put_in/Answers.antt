use Rattle.std.proofs.Common.{refl}
use Rattle.tt_pool.specs.Pools.{chain_at}
use Rattle.tt_pool.proofs.Moves.{moved_within}
use Rattle.tt_pool.proofs.Paths.{stands_at, first_node}
use Rattle.tt_pool.proofs.PoolLemmas.{room_left, pair_of_free, Changes-put, IsPool-changed, chains-put, lists-put}
use Rattle.tt_pool.proofs.chain.put_in.Goals as goal

pub transfer-moved-requires : goal.transfer-moved-requires
transfer-moved-requires c = (
  pair_of_free c.args.nodes.now c.args.lists.now c.args.free c.args.list c.requires.pool c.requires.list,
  (
    first_node c.args.nodes.now c.args.free c.requires.spare,
    (
      c.requires.place,
      room_left c.args.nodes.now c.args.lists.now c.args.free c.args.list c.requires.pool c.requires.list,
    ),
  ),
)

pub bounds-nodes-node : goal.bounds-nodes-node
bounds-nodes-node c =
    moved_within c.args.nodes.now c.transfer-moved.new.nodes c.args.free (chain_at c.args.lists.now c.args.list) 0
    c.args.free.first.0 (pair_of_free c.args.nodes.now c.args.lists.now c.args.free c.args.list c.requires.pool c.requires.list)
    (stands_at _ _ _ _ _ (first_node c.args.nodes.now c.args.free c.requires.spare)) c.requires.spare c.transfer-moved.auto.nodes

pub returns-clause-pool : goal.returns-clause-pool
returns-clause-pool c =
    IsPool-changed c.args.nodes.now _ c.args.lists.now c.args.free c.args.list c.transfer-moved.result.from c.transfer-moved.result.to
    (Changes-put c.args.nodes.now c.transfer-moved.new.nodes _ c.args.lists.now c.args.free c.args.list c.args.place.at
    c.args.free.first.0 c.transfer-moved.result.from c.transfer-moved.result.to c.requires.pool c.requires.list c.requires.spare
    c.transfer-moved.auto.nodes c.transfer-moved.ensures.from c.transfer-moved.ensures.to c.transfer-moved.ensures.less
    c.transfer-moved.ensures.more (stands_at _ _ _ _ _ (first_node c.args.nodes.now c.args.free c.requires.spare)) c.transfer-moved.ensures.others refl)

pub returns-clause-lists : goal.returns-clause-lists
returns-clause-lists c =
    lists-put c.args.nodes.now c.transfer-moved.new.nodes _ c.args.lists.now c.args.free c.args.list c.args.place.at
    c.args.free.first.0 c.transfer-moved.result.from c.transfer-moved.result.to
    (Changes-put c.args.nodes.now c.transfer-moved.new.nodes _ c.args.lists.now c.args.free c.args.list c.args.place.at
    c.args.free.first.0 c.transfer-moved.result.from c.transfer-moved.result.to c.requires.pool c.requires.list c.requires.spare
    c.transfer-moved.auto.nodes c.transfer-moved.ensures.from c.transfer-moved.ensures.to c.transfer-moved.ensures.less
    c.transfer-moved.ensures.more (stands_at _ _ _ _ _ (first_node c.args.nodes.now c.args.free c.requires.spare)) c.transfer-moved.ensures.others refl)
    c.transfer-moved.ensures.to refl
    (moved_within c.args.nodes.now c.transfer-moved.new.nodes c.args.free (chain_at c.args.lists.now c.args.list) 0
    c.args.free.first.0 (pair_of_free c.args.nodes.now c.args.lists.now c.args.free c.args.list c.requires.pool c.requires.list)
    (stands_at _ _ _ _ _ (first_node c.args.nodes.now c.args.free c.requires.spare)) c.requires.spare c.transfer-moved.auto.nodes)
    c.requires.spare (stands_at _ _ _ _ _ (first_node c.args.nodes.now c.args.free c.requires.spare)) c.transfer-moved.ensures.items

pub returns-clause-chains : goal.returns-clause-chains
returns-clause-chains c =
    chains-put c.args.nodes.now c.transfer-moved.new.nodes _ c.args.lists.now c.args.free c.args.list c.args.place.at
    c.args.free.first.0 c.transfer-moved.result.from c.transfer-moved.result.to
    (Changes-put c.args.nodes.now c.transfer-moved.new.nodes _ c.args.lists.now c.args.free c.args.list c.args.place.at
    c.args.free.first.0 c.transfer-moved.result.from c.transfer-moved.result.to c.requires.pool c.requires.list c.requires.spare
    c.transfer-moved.auto.nodes c.transfer-moved.ensures.from c.transfer-moved.ensures.to c.transfer-moved.ensures.less
    c.transfer-moved.ensures.more (stands_at _ _ _ _ _ (first_node c.args.nodes.now c.args.free c.requires.spare)) c.transfer-moved.ensures.others refl)
    c.transfer-moved.ensures.to refl
    (moved_within c.args.nodes.now c.transfer-moved.new.nodes c.args.free (chain_at c.args.lists.now c.args.list) 0
    c.args.free.first.0 (pair_of_free c.args.nodes.now c.args.lists.now c.args.free c.args.list c.requires.pool c.requires.list)
    (stands_at _ _ _ _ _ (first_node c.args.nodes.now c.args.free c.requires.spare)) c.requires.spare c.transfer-moved.auto.nodes)
    c.requires.spare (stands_at _ _ _ _ _ (first_node c.args.nodes.now c.args.free c.requires.spare))
