-- Proof. Where the time and the room of a value stand in the lists of a class.
use Rattle.std.specs.Prelude.{ℕ, Bool, false, nat_eq, List, Option, length, max, slice_get}
use Rattle.std.specs.List.{find, range_with_len}
use Rattle.std.specs.Option.{option_eq, option_map, option_map_or}
use Rattle.tt_bits.specs.declared.times.Time.{Time}
use Rattle.tt_problem.specs.declared.parts.RoomChoice.{RoomChoice}
use Rattle.tt_problem.specs.declared.parts.TimeChoice.{TimeChoice}
use Rattle.tt_deluge.specs.ClassRounds.{begin_alike}

-- the time at a place has the days, the weeks and the start of another
abbrev pub is_alike_at : List TimeChoice → Time → (place : ℕ) → Bool
is_alike_at times t place = option_map_or (λ choice. begin_alike choice.time t) (slice_get times place) false

-- the first such place
abbrev pub place_of_time : List TimeChoice → Time → Option ℕ
place_of_time times t = find (is_alike_at times t) (range_with_len 0 (length times))

-- the room at a place is this one, or there is none and none is asked for
abbrev pub is_room_at : List RoomChoice → (room : Option ℕ) → (place : ℕ) → Bool
is_room_at rooms room place = option_eq nat_eq (option_map (λ choice. choice.room) (slice_get rooms place)) room

-- the first such place; where there is no room the only place is 0
abbrev pub place_of_room : List RoomChoice → (room : Option ℕ) → Option ℕ
place_of_room rooms room = find (is_room_at rooms room) (range_with_len 0 (max 1 (length rooms)))
