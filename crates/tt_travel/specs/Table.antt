-- Theorem. The table of travel between rooms, in slots.
use Rattle.std.specs.Prelude.{◌≡◌, ℕ, ◌+◌, ◌*◌, ◌<◌, ◌≤◌, ◌⊎◌, ◌==◌, List, Option, Some, None, slice_index, slice_set, replicate, length, IfSome, if◌then◌else◌}
use Rattle.tt_base.specs.Limits.{most_rooms}

-- the slots from each room to each room, row after row
pub record Table : Type 0 where
  pub rooms : ℕ
  pub slots : List ℕ

-- the slots from one room to another, 0 where either is none
abbrev pub between : Table → Option ℕ → Option ℕ → ℕ
between t None b = 0
between t (Some a) None = 0
between t (Some a) (Some b) = slice_index t.slots (a * t.rooms + b)

-- no travel between so many rooms
unfoldable pub no_travel : ℕ → Table
no_travel n = record { rooms = n; slots = replicate (n * n) 0 }

-- the table with these slots from a to b and back; from a room to itself it takes none
unfoldable pub with_travel : Table → ℕ → ℕ → ℕ → Table
with_travel t a b n =
    if a == b then t else record t { slots = slice_set (slice_set t.slots (a * t.rooms + b) n) (b * t.rooms + a) n }

-- the room, if there is one, is a room of the table
abbrev pub IsRoomOf : Table → Option ℕ → Type 0
IsRoomOf t room = IfSome room (λ a. a < t.rooms)

-- c and d are a and b, in this order or the other
abbrev pub IsPair : ℕ → ℕ → ℕ → ℕ → Type 0
IsPair a b c d = ((c ≡ a) × (d ≡ b)) ⊎ ((c ≡ b) × (d ≡ a))

-- a whole table that is the same both ways, and 0 from a room to itself
pub record IsTravel (t : Table) : Type 0 where
  pub few : t.rooms ≤ most_rooms
  pub whole : length t.slots ≡ t.rooms * t.rooms
  pub both_ways : (a b : Option ℕ) → IsRoomOf t a → IsRoomOf t b → between t a b ≡ between t b a
  pub itself : (a : Option ℕ) → IsRoomOf t a → between t a a ≡ 0
