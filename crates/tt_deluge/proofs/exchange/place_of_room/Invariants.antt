use Rattle.std.proofs.Common.{◌≡◌, ◌-◌, Some, length}
use Rattle.std.specs.List.{find, range_with_len}
use Rattle.tt_deluge.specs.Places.{is_room_at, place_of_room}
use Rattle.tt_deluge.proofs.exchange.place_of_room.Given as goal

abbrev pub invariant-loop-place : goal.invariant-loop-place
invariant-loop-place l = find (is_room_at l.rooms (Some l.wanted)) (range_with_len l.place (length l.rooms - l.place)) ≡ place_of_room l.rooms (Some l.wanted)
