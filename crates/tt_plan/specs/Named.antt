-- Theorem. The value that a time and a room name.
use Rattle.std.specs.Prelude.{ℕ, ◌-◌, ◌&&◌, ◌==◌, nat_le, Option, Some, None, Result, Ok, Err, length, slice_get, position, option_and_then, if◌then◌else◌}
use Rattle.std.specs.Option.{option_map_or}
use Rattle.tt_bits.specs.declared.times.Value.{Value}
use Rattle.tt_problem.specs.declared.parts.ClassPart.{ClassPart}
use Rattle.tt_problem.specs.declared.parts.Parts.{Parts}
use Rattle.tt_problem.specs.Places.{room_of}
use Rattle.tt_plan.specs.declared.named.NoValue.{NoValue}
use Rattle.tt_plan.specs.declared.named.NoValue.TheVariants.{Time, Room}
use Rattle.tt_plan.specs.Domain.{value_of}

-- the place in the rooms of a class: 0 where none is named and none is needed, and else the first place of the room with the id
abbrev pub room_place : Parts → ClassPart → Option ℕ → Option ℕ
room_place p c None = if length c.rooms == 0 then Some 0 else None
room_place p c (Some id) = option_and_then (λ room. position (λ r. r.room == room) c.rooms) (room_of p id)

-- the value of a class at a time, counted from 1, in a room with an id or in none
abbrev pub value_named : Parts → ClassPart → ℕ → Option ℕ → Result Value NoValue
value_named p c time room = if nat_le 1 time && nat_le time (length c.times) then option_map_or (λ place. Ok (value_of (time - 1) place)) (room_place p c room) (Err Room) else Err Time

-- the same of the class at a place
unfoldable pub find_value : Parts → ℕ → ℕ → Option ℕ → Result Value NoValue
find_value p class time room = option_map_or (λ c. value_named p c time room) (slice_get p.classes class) (Err Time)
