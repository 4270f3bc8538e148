-- Theorem. The values of a class, and what they stand for.
use Rattle.std.specs.Prelude.{ℕ, ◌<◌, List, [], Option, IfSome, length, slice_get, map, max, option_and_then}
use Rattle.std.specs.List.{enumerate_from, flat_map, range_with_len}
use Rattle.std.specs.Option.{option_map, option_map_or}
use Rattle.tt_bits.specs.declared.times.Spot.{Spot}
use Rattle.tt_bits.specs.declared.times.Value.{Value}
use Rattle.tt_bits.specs.Spots.{IsBelow}
use Rattle.tt_problem.specs.declared.parts.ClassPart.{ClassPart}
use Rattle.tt_problem.specs.declared.parts.Parts.{Parts}

-- how many values a class has at each of its times: one for each of its rooms, and one where it needs none
abbrev pub values_per_time : ClassPart → ℕ
values_per_time c = max 1 (length c.rooms)

-- the value of a place in the times and a place in the rooms
abbrev pub value_of : ℕ → ℕ → Value
value_of time room = record { time = time; room = room }

-- the values of a class: for each time in order each room in order
abbrev pub values_of : ClassPart → List Value
values_of c = flat_map (λ time. map (value_of time) (range_with_len 0 (values_per_time c))) (range_with_len 0 (length c.times))

-- the domain of the class at a place
unfoldable pub domain_of : Parts → ℕ → List Value
domain_of p class = option_map_or values_of (slice_get p.classes class) []

-- the value names a time of the class, and a room of it where it needs one
pub record IsValueFor (c : ClassPart) (v : Value) : Type 0 where
  pub time : v.time < length c.times
  pub room : v.room < values_per_time c

-- the value is of the domain of the class at a place
pub record IsOfDomain (p : Parts) (class : ℕ) (v : Value) : Type 0 where
  pub within : class < length p.classes
  pub value : IfSome (slice_get p.classes class) (λ c. IsValueFor c v)

-- the room of a value, none where the class needs none
abbrev pub value_room : ClassPart → Value → Option ℕ
value_room c v = option_map (λ r. r.room) (slice_get c.rooms v.room)

-- the time and the room of a value
abbrev pub spot_for : ClassPart → Value → Option Spot
spot_for c v = option_map (λ t. record { time = t.time; room = value_room c v }) (slice_get c.times v.time)

-- the spot of the class at a place at a value
unfoldable pub spot_at_value : Parts → ℕ → Value → Option Spot
spot_at_value p class v = option_and_then (λ c. spot_for c v) (slice_get p.classes class)

-- the penalty of a value's time
unfoldable pub time_penalty : Parts → ℕ → Value → ℕ
time_penalty p class v = option_map_or (λ c. option_map_or (λ t. t.penalty) (slice_get c.times v.time) 0) (slice_get p.classes class) 0

-- the penalty of a value's room, 0 where the class needs none
unfoldable pub room_penalty : Parts → ℕ → Value → ℕ
room_penalty p class v = option_map_or (λ c. option_map_or (λ r. r.penalty) (slice_get c.rooms v.room) 0) (slice_get p.classes class) 0

-- the spot lies in the rooms and weeks of the problem
pub record IsSpotOf (p : Parts) (x : Spot) : Type 0 where
  pub room : IfSome x.room (λ room. room < length p.rooms)
  pub weeks : IsBelow p.nr_weeks x

-- the spots of a plan of which the first class is at this place
abbrev pub spots_from : Parts → ℕ → List (Option Value) → List (Option Spot)
spots_from p first plan = map (λ v. option_and_then (spot_at_value p v.0) v.1) (enumerate_from first plan)

-- the spot of each class or none
abbrev pub spots_of : Parts → List (Option Value) → List (Option Spot)
spots_of p plan = spots_from p 0 plan
