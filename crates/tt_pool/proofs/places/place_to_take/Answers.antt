use Rattle.std.proofs.Common.{arith}
use Rattle.tt_pool.proofs.EndLemmas.{last_within, found_some, found_within, IsPlace-last, rest-last}
use Rattle.tt_pool.proofs.places.place_to_take.Goals as goal

pub bounds-nodes-last : goal.bounds-nodes-last
bounds-nodes-last c =
    last_within c.args.nodes.now c.args.backs.now c.args.chain c.args.end c.requires.chain c.requires.back
    (found_some c.args.nodes.now c.args.chain c.args.item c.requires.found)

pub bounds-backs-last : goal.bounds-backs-last
bounds-backs-last c =
    let lt =
    last_within c.args.nodes.now c.args.backs.now c.args.chain c.args.end c.requires.chain c.requires.back
    (found_some c.args.nodes.now c.args.chain c.args.item c.requires.found) in
    omega (arith, lt, c.requires.nodes)

pub returns-then-nodes-last-clause-place : goal.returns-then-nodes-last-clause-place
returns-then-nodes-last-clause-place c = IsPlace-last c.args.nodes.now c.args.backs.now c.args.chain c.args.end c.requires.back

pub returns-then-nodes-last-clause-rest : goal.returns-then-nodes-last-clause-rest
returns-then-nodes-last-clause-rest c =
    rest-last c.args.nodes.now c.args.backs.now c.args.chain c.args.end c.args.item c.requires.back (c.requires.order c.if-ordered.true)
    c.requires.found c.if-nodes-last.true

pub returns-clause-at : goal.returns-clause-at
returns-clause-at c = found_within c.args.nodes.now c.args.chain c.args.item c.place_of.result.at c.requires.found c.place_of.ensures.at
