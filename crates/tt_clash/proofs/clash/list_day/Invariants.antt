use Rattle.std.proofs.Common.{◌≡◌, ◌<◌, length, All}
use Rattle.tt_bits.specs.Spots.{spot_at}
use Rattle.tt_occupancy.specs.Clashes.{clashes_in_room}
use Rattle.tt_occupancy.specs.RoomDays.{is_on}
use Rattle.tt_clash.specs.Listings.{AreInOrder}
use Rattle.tt_clash.specs.Found.{AreClashing, AreStillListed}
use Rattle.tt_clash.proofs.RoomLemmas.{AreFound}
use Rattle.tt_clash.proofs.clash.list_day.Given as goal

abbrev pub invariant-loop-other : goal.invariant-loop-other
invariant-loop-other l = record {
  clash : AreClashing l.placing l.listing.list;
  kept : AreStillListed l.fn.listing.list l.listing.list;
  found : AreFound (λ d. is_on l.placing.spot.room l.day (spot_at l.placing.occupancy.now.spots d)) (clashes_in_room l.placing.occupancy.now.spots l.placing.class l.placing.spot) l.listing.list l.other-iterator;
  within : All (λ d. d < length l.placing.occupancy.now.spots) l.other-iterator;
  order : AreInOrder l.listing;
  classes : l.listing.classes ≡ l.fn.listing.classes;
}
