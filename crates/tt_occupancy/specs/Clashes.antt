-- Theorem. Placed classes that have the same room and overlap.
use Rattle.std.specs.Prelude.{ℕ, Bool, false, not, ◌&&◌, ◌==◌, List, Option, None, slice_set, count_by}
use Rattle.std.specs.Option.{option_map_or}
use Rattle.tt_base.specs.Among.{pairs_among}
use Rattle.tt_bits.specs.declared.times.Spot.{Spot}
use Rattle.tt_bits.specs.Pairs.{is_one_room}
use Rattle.tt_bits.specs.Times.{overlaps}
use Rattle.tt_bits.specs.Spots.{spot_at, placed}

-- whether two spots have the same room and overlap
unfoldable pub clash : Spot → Spot → Bool
clash a b = is_one_room a.room b.room && overlaps a.time b.time

-- how many pairs of placed classes clash, each class with each later one
abbrev pub clash_pairs : List (Option Spot) → ℕ
clash_pairs spots = pairs_among clash (placed spots)

-- how many placed classes clash with a spot, one class left out
abbrev pub clash_count : List (Option Spot) → Spot → (except : ℕ) → ℕ
clash_count spots x except = count_by (clash x) (placed (slice_set spots except None))

-- whether a class isn't the one excepted, is placed, and its spot is in the same room and overlaps
abbrev pub clashes_in_room : List (Option Spot) → (except : ℕ) → Spot → (class : ℕ) → Bool
clashes_in_room spots except x class = not (class == except) && option_map_or (clash x) (spot_at spots class) false
