use Rattle.std.proofs.Common.{◌≡◌, ◌-◌, length}
use Rattle.std.specs.List.{find, range_with_len}
use Rattle.tt_deluge.specs.Places.{is_alike_at, place_of_time}
use Rattle.tt_deluge.proofs.exchange.place_of_time.Given as goal

abbrev pub invariant-loop-place : goal.invariant-loop-place
invariant-loop-place l = find (is_alike_at l.times l.time) (range_with_len l.place (length l.times - l.place)) ≡ place_of_time l.times l.time
