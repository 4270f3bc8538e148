use Rattle.std.proofs.Common.{◌∙◌, ap}
use Rattle.std.proofs.Common.{List, ℕ}
use Rattle.std.specs.List.{insert}
use Rattle.tt_pool.proofs.Moves.{IsChain-from_pair, IsChain-to, moved_within, moved_new, from_kept, to_kept, moved_others, IsPlace-kept}
use Rattle.tt_pool.proofs.Paths.{stands_at}
use Rattle.tt_pool.proofs.chain.transfer.Goals as goal

pub detach-from-requires : goal.detach-from-requires
detach-from-requires g c = (IsChain-from_pair _ _ _ c.requires.0, c.requires.1.0)

pub attach-to-requires-clause-chain : goal.attach-to-requires-clause-chain
attach-to-requires-clause-chain g c =
    IsChain-to c.args.nodes.now c.detach-from.new.nodes c.args.from c.args.to c.requires.0 c.detach-from.ensures.others c.detach-from.auto.nodes

pub attach-to-requires-clause-node : goal.attach-to-requires-clause-node
attach-to-requires-clause-node g c =
    moved_within c.args.nodes.now c.detach-from.new.nodes c.args.from c.args.to g.at c.args.node.0 c.requires.0
    (stands_at _ _ _ _ _ c.requires.1.0) c.requires.1.0.within c.detach-from.auto.nodes

pub attach-to-requires-clause-new : goal.attach-to-requires-clause-new
attach-to-requires-clause-new g c =
    moved_new c.args.nodes.now c.detach-from.new.nodes c.args.from c.args.to g.at c.args.node.0 c.requires.0
    c.detach-from.ensures.others (stands_at _ _ _ _ _ c.requires.1.0) c.requires.1.0.within

pub returns-clause-from : goal.returns-clause-from
returns-clause-from g c =
    from_kept c.args.nodes.now c.detach-from.new.nodes c.attach-to.new.nodes c.args.from c.args.to c.detach-from.result g.at c.args.place.at
    c.args.node.0 c.requires.0 c.detach-from.ensures.others (stands_at _ _ _ _ _ c.requires.1.0) c.requires.1.0.within c.detach-from.ensures.chain
    c.attach-to.ensures.others

pub returns-clause-to : goal.returns-clause-to
returns-clause-to g c =
    c.attach-to.ensures.chain
    ∙ ap (λ (t : List ℕ). insert t c.args.place.at c.args.node.0)
    (to_kept c.args.nodes.now c.detach-from.new.nodes c.args.from c.args.to c.requires.0 c.detach-from.ensures.others)

pub returns-clause-others : goal.returns-clause-others
returns-clause-others g c =
    moved_others c.args.nodes.now c.detach-from.new.nodes c.attach-to.new.nodes c.args.from c.args.to g.at c.args.place.at
    c.args.node.0 c.requires.0 c.detach-from.ensures.others (stands_at _ _ _ _ _ c.requires.1.0) c.requires.1.0.within c.attach-to.ensures.others

pub attach-to-requires-clause-place : goal.attach-to-requires-clause-place
attach-to-requires-clause-place g c =
    IsPlace-kept c.args.nodes.now c.detach-from.new.nodes c.args.to c.args.place
    (to_kept c.args.nodes.now c.detach-from.new.nodes c.args.from c.args.to c.requires.0 c.detach-from.ensures.others) c.requires.1.1.0
