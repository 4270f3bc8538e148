use Rattle.std.specs.Prelude.{◌==◌}
use Rattle.std.proofs.lemmas.Bool.{eq-eqb, ne_eqb}
use Rattle.tt_pool.proofs.Paths.{way_within}
use Rattle.tt_pool.proofs.Search.{place_found, place_none, searched_more}
use Rattle.tt_pool.proofs.places.place_of.Goals as goal

pub bounds-nodes-node : goal.bounds-nodes-node
bounds-nodes-node c =
    way_within c.args.nodes.now c.loop-at.node.0 c.loop-at.at c.args.chain.len c.args.chain.first.0 c.loop-at.invariant.node_is
    c.requires c.loop-at-test.true

pub returns-then-here-item-clause-at : goal.returns-then-here-item-clause-at
returns-then-here-item-clause-at c =
    place_found c.args.nodes.now c.args.chain c.loop-at.at c.loop-at.before.0 c.loop-at.node.0 (λ x. x == c.args.item) c.loop-at.invariant
    c.loop-at-test.true (eq-eqb _ _ c.if-here-item.true)

pub loop-at-preserved : goal.loop-at-preserved
loop-at-preserved c =
    searched_more c.args.nodes.now c.args.chain.first.0 c.loop-at.at c.loop-at.before.0 c.loop-at.node.0 (λ x. x == c.args.item) c.loop-at.invariant
    (ne_eqb _ _ c.if-here-item.false)

pub returns-clause-at : goal.returns-clause-at
returns-clause-at c =
    place_none c.args.nodes.now c.args.chain c.loop-at.at c.loop-at.before.0 c.loop-at.node.0 (λ x. x == c.args.item) c.loop-at.invariant
    c.loop-at.auto.at-end c.loop-at-test.false
