use Rattle.std.proofs.Common.{ap, refl, rules}
use Rattle.tt_occupancy.specs.Rooms.{has_room}
use Rattle.tt_occupancy.proofs.RoomLemmas.{spare_for, AreListed-same, AreListed-enter}
use Rattle.tt_occupancy.proofs.enter.Goals as goal

pub insert_in_order-requires-clause-spare : goal.insert_in_order-requires-clause-spare
insert_in_order-requires-clause-spare c = spare_for _ _ c.args.spot c.in-Some.room _ c.requires.listed c.requires.place c.in-Some.is

pub returns-in-None-clause-listed : goal.returns-in-None-clause-listed
returns-in-None-clause-listed c =
    AreListed-same _ _ _ _ c.requires.place.0 (ap has_room c.requires.place.1) (rw c.in-None.is refl) c.requires.listed

pub returns-in-Some-clause-listed : goal.returns-in-Some-clause-listed
returns-in-Some-clause-listed c =
    AreListed-enter _ _ _ c.in-Some.room _ _ c.requires.listed c.requires.place c.in-Some.is (search rules) c.insert_in_order.ensures.lists c.insert_in_order.ensures.spare
