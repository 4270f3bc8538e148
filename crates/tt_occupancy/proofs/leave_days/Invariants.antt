use Rattle.std.proofs.Common.{◌≡◌, ◌+◌, Some, None, length}
use Rattle.std.specs.Prelude.{slice_set}
use Rattle.tt_occupancy.specs.RoomDays.{days_below}
use Rattle.tt_occupancy.proofs.RoomDayLemmas.{AreTurned}
use Rattle.tt_occupancy.proofs.leave_days.Given as goal

abbrev pub invariant-loop-day : goal.invariant-loop-day
invariant-loop-day l = record {
  turned : AreTurned l.spots (slice_set l.spots l.class None) l.day l.by_day;
  spare : l.by_day.spare ≡ l.fn.by_day.spare + days_below l.day (Some l.spot);
  rooms : length l.by_day.lists ≡ length l.fn.by_day.lists;
}
