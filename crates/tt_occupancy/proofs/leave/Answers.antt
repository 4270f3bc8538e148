use Rattle.std.proofs.Common.{ap, refl, ◌∙◌}
use Rattle.tt_bits.proofs.SpotLemmas.{full_within}
use Rattle.tt_occupancy.specs.Rooms.{has_room}
use Rattle.tt_occupancy.proofs.RoomLemmas.{is_listed, AreListed-same, AreListed-leave}
use Rattle.tt_occupancy.proofs.leave.Goals as goal

pub remove_item-requires-clause-list : goal.remove_item-requires-clause-list
remove_item-requires-clause-list c = (is_listed _ c.args.class _ c.in-Some.room c.args.by_room.now c.requires.listed c.requires.place c.in-Some.is).0

pub remove_item-requires-clause-found : goal.remove_item-requires-clause-found
remove_item-requires-clause-found c = (is_listed _ _ _ c.in-Some.room c.args.by_room.now c.requires.listed c.requires.place c.in-Some.is).1

pub returns-in-None-clause-listed : goal.returns-in-None-clause-listed
returns-in-None-clause-listed c =
    let within = full_within c.args.spots.now c.args.class (rw c.requires.place refl) in
    AreListed-same _ _ _ _ within (ap has_room c.requires.place ∙ rw c.in-None.is refl) refl c.requires.listed

pub returns-in-Some-clause-listed : goal.returns-in-Some-clause-listed
returns-in-Some-clause-listed c =
    AreListed-leave _ _ _ c.in-Some.room c.args.by_room.now _ c.requires.listed c.requires.place c.in-Some.is c.remove_item.ensures.lists c.remove_item.ensures.spare
