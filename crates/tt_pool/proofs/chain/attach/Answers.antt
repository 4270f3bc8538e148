use Rattle.std.proofs.Common.{◌-◌, refl, arith, add-one}
use Rattle.std.proofs.lemmas.List.{length-set}
use Rattle.tt_pool.proofs.Paths.{way_within, attached_first, attached, attached_others_first, attached_others}
use Rattle.tt_pool.proofs.chain.attach.Goals as goal

pub bounds-nodes-before : goal.bounds-nodes-before
bounds-nodes-before c =
    way_within c.args.nodes.now c.args.place.before.0 (c.args.place.at - 1) c.args.chain.len c.args.chain.first.0 (c.requires.place.before c.if-at-eq0.false)
    c.requires.chain (omega arith)

pub bounds-nodes-before-else-at-eq0 : goal.bounds-nodes-before-else-at-eq0
bounds-nodes-before-else-at-eq0 c =
    rw length-set
    (way_within c.args.nodes.now c.args.place.before.0 (c.args.place.at - 1) c.args.chain.len c.args.chain.first.0 (c.requires.place.before c.if-at-eq0.false)
    c.requires.chain (omega arith))

pub returns-then-at-eq0-clause-chain : goal.returns-then-at-eq0-clause-chain
returns-then-at-eq0-clause-chain c =
    rw (add-one, c.if-at-eq0.true)
    (attached_first c.args.nodes.now c.args.node.0 _ c.args.chain.len c.args.chain.first.0 c.requires.node refl c.requires.new)

pub returns-then-at-eq0-clause-others : goal.returns-then-at-eq0-clause-others
returns-then-at-eq0-clause-others c = attached_others_first c.args.nodes.now c.args.node.0 _ _ c.args.place.at

pub returns-else-at-eq0-clause-chain : goal.returns-else-at-eq0-clause-chain
returns-else-at-eq0-clause-chain c =
    rw add-one
    (attached c.args.nodes.now c.args.node.0 c.args.place.before.0 _ _ c.args.place.at c.args.chain.len c.args.chain.first.0
    c.if-at-eq0.false c.requires.place.within c.requires.node (c.requires.place.before c.if-at-eq0.false) refl refl c.requires.new c.requires.chain)

pub returns-else-at-eq0-clause-others : goal.returns-else-at-eq0-clause-others
returns-else-at-eq0-clause-others c =
    attached_others c.args.nodes.now c.args.node.0 c.args.place.before.0 _ _ c.args.place.at c.args.chain.len c.args.chain.first.0
    c.if-at-eq0.false c.requires.place.within (c.requires.place.before c.if-at-eq0.false)
