-- Proof. What an occupancy keeps. What callers see stands in Occupied.
use Rattle.std.specs.Prelude.{◌≡◌, ℕ, ◌<◌, ◌≤◌, ◌*◌, ◌^◌, List, Option, length}
use Rattle.tt_base.specs.Limits.{most_rooms}
use Rattle.tt_bits.specs.declared.times.Spot.{Spot}
use Rattle.tt_occupancy.specs.declared.Occupancy.TheInside.{Inside}
use Rattle.tt_occupancy.specs.Occupied.{Occupied}
use Rattle.tt_occupancy.specs.Rooms.{AreListed}
use Rattle.tt_occupancy.specs.RoomDays.{AreOnDays}
use Rattle.tt_occupancy.specs.Clashes.{clash_pairs}

-- what callers see
abbrev pub occupied : Inside → Occupied
occupied o = record { spots = o.spots.items; rooms = o.rooms }

-- the clashes are counted, and there are no more classes than a number of 32 bits counts
pub record ClashesAreCounted (spots : List (Option Spot)) (clashes : ℕ) : Type 0 where
  pub few : length spots < 2 ^ 32
  pub counted : clashes ≡ clash_pairs spots

-- the counts and the lists are those of the spots, and each room has a list, and one for each day
pub record OccupancyIsKept (o : Inside) : Type 0 where
  pub counted : ClashesAreCounted o.spots.items o.clashes
  pub listed : AreListed o.spots.items o.by_room
  pub rooms : length o.by_room.lists ≡ o.rooms
  pub on_days : AreOnDays o.spots.items o.by_day
  pub room_days : length o.by_day.lists ≡ o.rooms * 7
  pub few_rooms : o.rooms ≤ most_rooms
