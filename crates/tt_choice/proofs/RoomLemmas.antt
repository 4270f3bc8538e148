-- A room of the table.
use Rattle.std.proofs.Common.{◌≡◌, ℕ, ◌<◌, None, Option, Some, refl}
use Rattle.tt_travel.specs.Table.{IsRoomOf, Table}

-- a room is one of the table where each number that it may be is
pub room_is : (t : Table) (room : Option ℕ) → ((n : ℕ) → room ≡ Some n → n < t.rooms) → IsRoomOf t room
room_is t None within = tt
room_is t (Some n) within = within n refl
