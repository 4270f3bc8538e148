-- Theorem. The classes of a generated problem.
use Rattle.std.specs.Prelude.{option_map, ℕ, ◌+◌, ◌*◌, ◌%◌, ◌==◌, List, [], ◌∷◌, false, Option, Some, None, if◌then◌else◌, codes}
use Rattle.serde_json.specs.Data.{Data, boolean, string, object, Members, member, no_members}
use Rattle.tt_make.specs.Draws.{Draws, ◌>>=◌, give, draw, draw_each}
use Rattle.tt_make.specs.Values.{num, list, word_at, key_if_some}

-- the days that a class may meet on, Monday first
abbrev pub day_words : List (List ℕ)
day_words =
    codes "1010000" ∷ codes "0101000" ∷ codes "1001000" ∷ codes "0010100" ∷
    codes "1000000" ∷ codes "0100000" ∷ codes "0010000" ∷ codes "0001000" ∷ codes "0000100" ∷ []

-- every week, every odd week, every even week
abbrev pub week_words : List (List ℕ)
week_words = codes "1111111111111" ∷ codes "1010101010101" ∷ codes "0101010101010" ∷ []

-- a time, from the numbers that were drawn for it
unfoldable pub time_data : ℕ → ℕ → ℕ → ℕ → ℕ → Data
time_data days start length weeks penalty =
    object (member (codes "days") (string (word_at day_words days)) (member (codes "length") (num (10 + 6 * length))
    (member (codes "penalty") (num penalty) (member (codes "start") (num (96 + 12 * start))
    (member (codes "weeks") (string (word_at week_words weeks)) no_members)))))

-- a time that a class may have
unfoldable pub time : Draws Data
time = do
  days ← draw 9
  start ← draw 10
  length ← draw 3
  weeks ← draw 3
  penalty ← draw 5
  give (time_data days start length weeks penalty)

-- a room, with its penalty
abbrev pub class_room_data : ℕ → ℕ → Data
class_room_data id penalty = object (member (codes "id") (num id) (member (codes "penalty") (num penalty) no_members))

-- a room that a class may have, one of so many
unfoldable pub class_room : ℕ → Draws Data
class_room rooms = do
  room ← draw rooms
  penalty ← draw 5
  give (class_room_data (1 + room) penalty)

-- every tenth class needs no room
unfoldable pub class_rooms : ℕ → ℕ → Draws (Option (List Data))
class_rooms rooms id = if id % 10 == 0 then give None else do
  made ← draw_each 0 4 (λ i. class_room rooms)
  give (Some made)

-- the key that says which rooms a class may have, before the other keys
abbrev pub rooms_key : Option (List Data) → Members → Members
rooms_key None rest = member (codes "room") (boolean false) rest
rooms_key (Some rooms) rest = member (codes "rooms") (list rooms) rest

-- a class, from its parts
unfoldable pub made_class : ℕ → Option ℕ → Option (List Data) → List Data → Data
made_class id parent rooms times =
    object (member (codes "id") (num id) (member (codes "limit") (num 50)
    (key_if_some (codes "parent") (option_map num parent) (rooms_key rooms (member (codes "times") (list times) no_members)))))

-- the class with this id, of a problem with so many rooms
unfoldable pub class : ℕ → Option ℕ → ℕ → Draws Data
class rooms parent id = do
  times ← draw_each 0 6 (λ i. time)
  chosen ← class_rooms rooms id
  give (made_class id parent chosen times)
