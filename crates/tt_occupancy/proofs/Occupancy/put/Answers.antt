use Rattle.std.proofs.Common.{◌≡◌, ◌∙◌, ◌<◌, ◌+◌, ◌*◌, ◌^◌, length, Some, arith, rules}
use Rattle.std.specs.Prelude.{slice_set}
use Rattle.std.proofs.lemmas.List.{with_items_is}
use Rattle.tt_occupancy.proofs.ClashLemmas.{ClashesAreCounted-put}
use Rattle.tt_occupancy.proofs.RoomDayLemmas.{seven_lists}
use Rattle.tt_occupancy.proofs.Occupancy.put.Goals as goal

pub overflow_add-self : goal.overflow_add-self
overflow_add-self c =
    let kept = c.self.inside in
    let fits : kept.clashes + c.clashes_with-more.result < 2 ^ 64 = (ClashesAreCounted-put kept.spots.items c.args.class kept.clashes c.clashes_with-more.result c.args.spot (search rules) c.self.invariant.counted (search rules)).0 in
    omega arith

pub enter_days-requires-clause-room : goal.enter_days-requires-clause-room
enter_days-requires-clause-room c =
    let count : length c.self.inside.by_day.lists ≡ c.args.self.now.rooms * 7 = search rules in
    seven_lists _ _ _ c.requires.room count

pub invariant_of-self : goal.invariant_of-self
invariant_of-self c =
    let kept = c.self.inside in
    let items = with_items_is kept.spots c.enter.new.spots (search rules) in
    let spots : c.enter.new.spots ≡ slice_set kept.spots.items c.args.class (Some c.args.spot) = search rules in
    let held : c.as_slice.result.now ≡ kept.spots.items = search rules in
    record {
      counted = rw (items, spots) (ClashesAreCounted-put kept.spots.items c.args.class kept.clashes c.clashes_with-more.result c.args.spot (search rules) c.self.invariant.counted (search rules)).1;
      listed = rw items c.enter.ensures.listed;
      rooms = c.enter.ensures.rooms ∙ c.self.invariant.rooms;
      on_days = rw (items, spots) (rw held at c.enter_days.ensures.listed);
      room_days = c.enter_days.ensures.rooms ∙ c.self.invariant.room_days;
      few_rooms = c.self.invariant.few_rooms;
    }
