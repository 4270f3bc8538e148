use Rattle.std.proofs.Common.{◌≡◌, ◌∙◌, None, rules}
use Rattle.std.specs.Prelude.{IsSome, slice_set}
use Rattle.std.proofs.lemmas.List.{with_items_is}
use Rattle.tt_bits.specs.Spots.{spot_at}
use Rattle.tt_bits.proofs.SpotLemmas.{full_is}
use Rattle.tt_occupancy.proofs.ClashLemmas.{ClashesAreCounted-take}
use Rattle.tt_occupancy.proofs.RoomDayLemmas.{seven_lists, room_within}
use Rattle.tt_occupancy.proofs.Occupancy.take.Goals as goal

pub overflow_sub-self : goal.overflow_sub-self
overflow_sub-self c =
    let kept = c.self.inside in
    let some : IsSome (spot_at kept.spots.items c.args.class) = search rules in
    let full = full_is kept.spots.items c.args.class c.index.result.now c.in-Some.spot some c.index.ensures c.in-Some.is in
    (ClashesAreCounted-take kept.spots.items c.args.class kept.clashes c.clashes_with-less.result c.in-Some.spot (search rules) c.self.invariant.counted full).0

pub leave_days-requires-clause-room : goal.leave_days-requires-clause-room
leave_days-requires-clause-room c =
    let kept = c.self.inside in
    let some : IsSome (spot_at kept.spots.items c.args.class) = search rules in
    let full = full_is kept.spots.items c.args.class c.index.result.now c.in-Some.spot some c.index.ensures c.in-Some.is in
    seven_lists _ _ _ (room_within _ _ c.in-Some.spot _ _ c.self.invariant.listed full c.self.invariant.rooms) c.self.invariant.room_days

pub invariant_of-self : goal.invariant_of-self
invariant_of-self c =
    let kept = c.self.inside in
    let some : IsSome (spot_at kept.spots.items c.args.class) = search rules in
    let full = full_is kept.spots.items c.args.class c.index.result.now c.in-Some.spot some c.index.ensures c.in-Some.is in
    let items = with_items_is kept.spots c.leave.new.spots (search rules) in
    let spots : c.leave.new.spots ≡ slice_set kept.spots.items c.args.class None = search rules in
    let held : c.as_slice.result.now ≡ kept.spots.items = search rules in
    record {
      counted = rw (items, spots) (ClashesAreCounted-take kept.spots.items c.args.class kept.clashes c.clashes_with-less.result c.in-Some.spot (search rules) c.self.invariant.counted full).1;
      listed = rw items c.leave.ensures.listed;
      rooms = c.leave.ensures.rooms ∙ c.self.invariant.rooms;
      on_days = rw (items, spots) (rw held at c.leave_days.ensures.listed);
      room_days = c.leave_days.ensures.rooms ∙ c.self.invariant.room_days;
      few_rooms = c.self.invariant.few_rooms;
    }
