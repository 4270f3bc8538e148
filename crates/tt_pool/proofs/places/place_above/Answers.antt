use Rattle.std.specs.Prelude.{nat_lt}
use Rattle.std.proofs.lemmas.Bool.{lt-ltb, le-ltb}
use Rattle.tt_pool.proofs.Paths.{way_within}
use Rattle.tt_pool.proofs.Search.{place_found, place_none, searched_more}
use Rattle.tt_pool.proofs.places.place_above.Goals as goal

pub bounds-nodes-node : goal.bounds-nodes-node
bounds-nodes-node c =
    way_within c.args.nodes.now c.loop-at.node.0 c.loop-at.at c.args.chain.len c.args.chain.first.0 c.loop-at.invariant.node_is
    c.requires c.loop-at-test.true

pub returns-then-item-here-clause-at : goal.returns-then-item-here-clause-at
returns-then-item-here-clause-at c =
    place_found c.args.nodes.now c.args.chain c.loop-at.at c.loop-at.before.0 c.loop-at.node.0 (nat_lt c.args.item) c.loop-at.invariant
    c.loop-at-test.true (lt-ltb c.args.item _ c.if-item-here.true)

pub loop-at-preserved : goal.loop-at-preserved
loop-at-preserved c =
    searched_more c.args.nodes.now c.args.chain.first.0 c.loop-at.at c.loop-at.before.0 c.loop-at.node.0 (nat_lt c.args.item) c.loop-at.invariant
    (le-ltb c.args.item _ c.if-item-here.false)

pub returns-clause-at : goal.returns-clause-at
returns-clause-at c =
    place_none c.args.nodes.now c.args.chain c.loop-at.at c.loop-at.before.0 c.loop-at.node.0 (nat_lt c.args.item) c.loop-at.invariant
    c.loop-at.auto.at-end c.loop-at-test.false
