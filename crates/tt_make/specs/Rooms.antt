-- Theorem. The rooms of a generated problem.
use Rattle.std.specs.Prelude.{ℕ, ◌+◌, ◌-◌, ◌%◌, ◌==◌, [], ◌∷◌, Option, Some, None, if◌then◌else◌, codes}
use Rattle.serde_json.specs.Data.{Data, string, object, member, no_members}
use Rattle.tt_make.specs.Draws.{Draws, ◌>>=◌, give, draw}
use Rattle.tt_make.specs.Values.{num, list, key_if_some}

-- an entry of travel, to this room
abbrev pub travel_entry : ℕ → ℕ → Data
travel_entry room value = object (member (codes "room") (num room) (member (codes "value") (num value) no_members))

-- each room but the first one has travel to the room before it
unfoldable pub travel : ℕ → Draws (Option Data)
travel id = if id == 1 then give None else do
  steps ← draw 3
  give (Some (list (travel_entry (id - 1) (1 + steps) ∷ [])))

-- from 16:00 to 18:00 on Fridays
unfoldable pub friday_afternoon : Data
friday_afternoon =
    object (member (codes "days") (string (codes "0000100")) (member (codes "length") (num 24)
    (member (codes "start") (num 192) (member (codes "weeks") (string (codes "1111111111111")) no_members))))

-- every fifth room is closed on Friday afternoons
abbrev pub unavailable : ℕ → Option Data
unavailable id = if id % 5 == 0 then Some (list (friday_afternoon ∷ [])) else None

-- a room, with its travel where it has any
abbrev pub room_data : ℕ → Option Data → Data
room_data id to_previous =
    object (member (codes "capacity") (num 60) (member (codes "id") (num id)
    (key_if_some (codes "travel") to_previous (key_if_some (codes "unavailable") (unavailable id) no_members))))

-- the room with this id
unfoldable pub room : ℕ → Draws Data
room id = do
  to_previous ← travel id
  give (room_data id to_previous)
