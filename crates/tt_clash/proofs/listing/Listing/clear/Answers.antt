use Rattle.std.proofs.Common.{arith}
use Rattle.std.specs.Prelude.{vec_capacity}
use Rattle.std.proofs.lemmas.List.{with_items_is}
use Rattle.tt_clash.proofs.ListedLemmas.{listed-within, nothing-listed}
use Rattle.tt_clash.proofs.listing.Listing.clear.Goals as goal

pub clear_marks-requires-clause-listed : goal.clear_marks-requires-clause-listed
clear_marks-requires-clause-listed c =
    let i = c.self.inside in
    rw (c.as_mut_slice.ensures.value, c.as_slice.ensures.value) (listed-within i.marks.items i.order.items (vec_capacity i.order) c.self.invariant)

pub clear_marks-requires-clause-each : goal.clear_marks-requires-clause-each
clear_marks-requires-clause-each c = rw (c.as_mut_slice.ensures.value, c.as_slice.ensures.value) c.self.invariant.each

pub invariant_of-self : goal.invariant_of-self
invariant_of-self c =
    let i = c.self.inside in
    let of = c.self.invariant in
    rw (with_items_is i.marks c.clear_marks.new.marks (omega (arith, c.clear_marks.auto.marks, c.as_mut_slice.ensures.len)), c.clear.ensures.items)
    (nothing-listed c.clear_marks.new.marks _ c.clear_marks.ensures (omega (arith, of.spare, i.marks.ok.0, c.clear_marks.auto.marks, c.as_mut_slice.ensures.len, c.clear.ensures.capacity))
    (omega (arith, of.few, i.marks.ok.0, c.clear_marks.auto.marks, c.as_mut_slice.ensures.len)))
