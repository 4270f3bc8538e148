-- Contract. The placed classes of each room.
use Rattle.std.specs.Prelude.{◌≡◌, ℕ, ◌+◌, Bool, false, List, Option, Some, is_some, length, count_by}
use Rattle.std.specs.Option.{option_map_or}
use Rattle.tt_bits.specs.declared.times.Spot.{Spot}
use Rattle.tt_bits.specs.Pairs.{is_one_room}
use Rattle.tt_pool.specs.Places.{places_where}
use Rattle.tt_pool.specs.Pools.{Pooled, list_at}

-- whether a class is placed in this room
abbrev pub is_in_room : Option ℕ → Option Spot → Bool
is_in_room room s = option_map_or (λ x. is_one_room room x.room) s false

-- whether a class is placed and has a room
abbrev pub has_room : Option Spot → Bool
has_room s = option_map_or (λ x. is_some x.room) s false

-- the classes that are placed in this room, in order
abbrev pub classes_in : List (Option Spot) → Option ℕ → List ℕ
classes_in spots room = places_where (is_in_room room) 0 spots

-- each room's list has its classes, no class has a room without a list, and each class that has
-- no room finds space in a list
pub record AreListed (spots : List (Option Spot)) (by_room : Pooled) : Type 0 where
  pub lists : (room : ℕ) → list_at by_room room ≡ classes_in spots (Some room)
  pub spare : by_room.spare + count_by has_room spots ≡ length spots
