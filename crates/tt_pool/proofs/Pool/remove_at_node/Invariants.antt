use Rattle.tt_pool.specs.Pools.{place_in, chain_at}
use Rattle.tt_pool.specs.Chains.{chain_of}
use Rattle.tt_pool.proofs.Pool.remove_at_node.Given as goal

abbrev pub ghost-take : goal.ghost-take
ghost-take a = place_in (chain_of a.nodes.now (chain_at a.lists.now a.list)) a.node.0
