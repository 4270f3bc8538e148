use Rattle.std.specs.Prelude.{vec_capacity}
use Rattle.tt_clash.proofs.ListedLemmas.{listed-within, listed-few}
use Rattle.tt_clash.proofs.listing.Listing.as_slice.Goals as goal

pub returns-clause-few : goal.returns-clause-few
returns-clause-few c =
    let i = c.self.inside in
    rw (← c.self.view_is, c.as_slice.ensures.value) (listed-few i.marks.items i.order.items (vec_capacity i.order) c.self.invariant)

pub returns-clause-within : goal.returns-clause-within
returns-clause-within c =
    let i = c.self.inside in
    rw (← c.self.view_is, c.as_slice.ensures.value) (listed-within i.marks.items i.order.items (vec_capacity i.order) c.self.invariant)
