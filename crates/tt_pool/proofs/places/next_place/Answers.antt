use Rattle.std.proofs.Common.{◌-◌, arith}
use Rattle.tt_pool.proofs.Paths.{way_within}
use Rattle.tt_pool.proofs.EndLemmas.{IsPlace-next}
use Rattle.tt_pool.proofs.places.next_place.Goals as goal

pub bounds-nodes-place : goal.bounds-nodes-place
bounds-nodes-place c =
    way_within c.args.nodes.now c.args.place.before.0 (c.args.place.at - 1) c.args.chain.len c.args.chain.first.0
    (c.requires.place.before c.if-place-eq0.false) c.requires.chain (omega arith)

pub returns-clause-place : goal.returns-clause-place
returns-clause-place c = IsPlace-next c.args.nodes.now c.args.chain c.args.place c.requires.place c.if-place-eq0.false c.requires.at
