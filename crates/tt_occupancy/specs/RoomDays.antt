-- Contract. The placed classes of each room on each day of the week.
use Rattle.std.specs.Prelude.{◌≡◌, ℕ, ◌+◌, ◌*◌, ◌<◌, ◌&&◌, Bool, false, cond, List, Option, Some, is_some, length, sum_by, zero, suc}
use Rattle.std.specs.Option.{option_map_or}
use Rattle.tt_base.specs.Sets.{has}
use Rattle.tt_bits.specs.declared.times.Spot.{Spot}
use Rattle.tt_bits.specs.Sets.{day_set}
use Rattle.tt_bits.specs.Pairs.{is_one_room}
use Rattle.tt_pool.specs.Places.{places_where}
use Rattle.tt_pool.specs.Pools.{Pooled, list_at}

-- whether a class is placed in this room and meets on this day
abbrev pub is_on : Option ℕ → (day : ℕ) → Option Spot → Bool
is_on room day s = option_map_or (λ x. is_one_room room x.room && has (day_set x.time.days) day) s false

-- the classes that are placed in this room and meet on this day, in order
abbrev pub classes_on : List (Option Spot) → Option ℕ → (day : ℕ) → List ℕ
classes_on spots room day = places_where (is_on room day) 0 spots

-- whether a class is placed, has a room and meets on this day
abbrev pub meets_on : (day : ℕ) → Option Spot → Bool
meets_on day s = option_map_or (λ x. is_some x.room && has (day_set x.time.days) day) s false

-- on how many days below k a class is placed and has a room
unfoldable pub days_below : (k : ℕ) → Option Spot → ℕ
days_below zero s = 0
days_below (suc k) s = cond (meets_on k s) 1 0 + days_below k s

-- on how many days of the week
abbrev pub days_taken : Option Spot → ℕ
days_taken s = days_below 7 s

-- 7 lists for each room have its classes on each day, and each class finds space in a list for each
-- day on which it isn't in one
pub record AreOnDays (spots : List (Option Spot)) (by_day : Pooled) : Type 0 where
  pub lists : (room day : ℕ) → day < 7 → list_at by_day (room * 7 + day) ≡ classes_on spots (Some room) day
  pub spare : by_day.spare + sum_by days_taken spots ≡ 7 * length spots
