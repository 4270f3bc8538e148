use Rattle.std.proofs.Common.{arith, length}
use Rattle.tt_pair.specs.PairLaws.{violated_pairs-most, few_pairs}
use Rattle.tt_pair.proofs.KeptLemmas.{PairAmountIsKept-put}
use Rattle.tt_pair.proofs.PairGroupMeasure.put.Goals as goal

pub overflow_add-self : goal.overflow_add-self
overflow_add-self c =
    let group = c.args.self.now in
    let most = violated_pairs-most group.kind c.args.travel.now group.held.items in
    omega (arith, c.requires.fits.counted, most, few_pairs (length group.held.items) group.few, c.violated_with.ensures.few)

pub returns-clause-fits : goal.returns-clause-fits
returns-clause-fits c =
    PairAmountIsKept-put c.args.self.now.kind c.args.travel.now c.args.self.now.held.items c.args.place _ _ c.args.spot
    c.violated_with.ensures.count c.requires.fits c.requires.place c.requires.room
