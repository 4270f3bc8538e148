use Rattle.std.proofs.Common.{◌≡◌, Some}
use Rattle.tt_bits.specs.Spots.{spot_at}
use Rattle.tt_bits.proofs.SpotLemmas.{full_is}
use Rattle.tt_pair.proofs.KeptLemmas.{PairAmountIsKept-take}
use Rattle.tt_pair.proofs.PairGroupMeasure.take.Goals as goal

pub overflow_sub-self : goal.overflow_sub-self
overflow_sub-self c =
    let full : spot_at c.args.self.now.held.items c.args.place ≡ Some c.in-Some.spot = full_is c.args.self.now.held.items c.args.place c.index.result.now c.in-Some.spot c.requires.place c.index.ensures c.in-Some.is in
    (PairAmountIsKept-take c.args.self.now.kind c.args.travel.now c.args.self.now.held.items c.args.place _ _ c.in-Some.spot
    c.violated_with.ensures.count c.requires.fits full).0

pub returns-clause-fits : goal.returns-clause-fits
returns-clause-fits c =
    let full : spot_at c.args.self.now.held.items c.args.place ≡ Some c.in-Some.spot = full_is c.args.self.now.held.items c.args.place c.index.result.now c.in-Some.spot c.requires.place c.index.ensures c.in-Some.is in
    (PairAmountIsKept-take c.args.self.now.kind c.args.travel.now c.args.self.now.held.items c.args.place _ _ c.in-Some.spot
    c.violated_with.ensures.count c.requires.fits full).1
