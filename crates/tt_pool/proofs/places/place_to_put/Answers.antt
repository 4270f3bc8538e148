use Rattle.tt_pool.proofs.EndLemmas.{last_within, IsPlace-end, place-end}
use Rattle.tt_pool.proofs.places.place_to_put.Goals as goal

pub bounds-nodes-last : goal.bounds-nodes-last
bounds-nodes-last c =
    last_within c.args.nodes.now c.args.backs.now c.args.chain c.args.end c.requires.chain c.requires.back c.if-chain-gt0.true

pub returns-then-nodes-last-clause-place : goal.returns-then-nodes-last-clause-place
returns-then-nodes-last-clause-place c = IsPlace-end c.args.nodes.now c.args.backs.now c.args.chain c.args.end c.requires.back

pub returns-then-nodes-last-clause-at : goal.returns-then-nodes-last-clause-at
returns-then-nodes-last-clause-at c =
    place-end c.args.nodes.now c.args.backs.now c.args.chain c.args.end c.args.item c.requires.back (c.requires.order c.if-ordered.true)
    c.if-chain-gt0.true c.if-nodes-last.true
