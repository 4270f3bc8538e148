use Rattle.std.proofs.Common.{◌<◌, arith}
use Rattle.tt_pool.proofs.EndLemmas.{end_is, node_is}
use Rattle.tt_pool.proofs.places.node_at.Goals as goal

pub returns-then-place-chain : goal.returns-then-place-chain
returns-then-place-chain c = end_is c.args.nodes.now c.args.chain c.args.place.at c.args.end c.if-place-chain.true

pub returns : goal.returns
returns c =
    let within = c.requires.place.within in
    let other = c.if-place-chain.false in
    let lt : c.args.place.at < c.args.chain.len = omega arith in
    node_is c.args.nodes.now c.args.chain c.args.place.at c.args.end c.next_place-next.result lt c.next_place-next.ensures.place
    c.next_place-next.ensures.at
