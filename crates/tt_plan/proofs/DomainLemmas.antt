-- Values, and their places in a domain.
use Rattle.std.proofs.Common.{◌≡◌, ℕ, ◌+◌, ◌*◌, ◌/◌, ◌%◌, ◌<◌, ◌≤◌, Some, length, get_or, slice_get, map, arith, zero, suc, ap, ◌∙◌, length-append, zero-add, suc-mul, mul-le-mul_right, mod-lt, mul_comm}
use Rattle.std.proofs.Math.Nat.{div-add-mod, div-lt_iff_lt-mul}
use Rattle.std.specs.List.{flat_map, range_with_len}
use Rattle.std.proofs.lemmas.List.{get_or-append-add, get_or_append_left}
use Rattle.std.proofs.lemmas.List.FromFn.{length-map-range_with_len, get_or-map-range_with_len}
use Rattle.std.proofs.lemmas.Option.{slice_get-get_or}
use Rattle.tt_bits.specs.declared.times.Value.{Value}
use Rattle.tt_problem.specs.declared.parts.ClassPart.{ClassPart}
use Rattle.tt_problem.specs.declared.parts.Parts.{Parts}
use Rattle.tt_plan.specs.Domain.{value_of, values_of, values_per_time, domain_of, IsValueFor, IsOfDomain}

length-row : (rooms time : ℕ) → length (map (value_of time) (range_with_len 0 rooms)) ≡ rooms
length-row rooms time = length-map-range_with_len (value_of time) 0 rooms

length-grid : (rooms first times : ℕ) → length (flat_map (λ time. map (value_of time) (range_with_len 0 rooms)) (range_with_len first times)) ≡ times * rooms
length-grid rooms first zero = omega arith
length-grid rooms first (suc times) =
    let front = length-append (map (value_of first) (range_with_len 0 rooms)) (flat_map (λ time. map (value_of time) (range_with_len 0 rooms)) (range_with_len (first + 1) times)) in
    let here = length-row rooms first in
    let later = length-grid rooms (first + 1) times in
    omega arith

pub length_of_values : (c : ClassPart) → length (values_of c) ≡ length c.times * values_per_time c
length_of_values c = length-grid (values_per_time c) 0 (length c.times)

grid-get : (rooms first times time room : ℕ) (d : Value) → time < times → room < rooms
    → get_or (flat_map (λ time. map (value_of time) (range_with_len 0 rooms)) (range_with_len first times)) (time * rooms + room) d ≡ value_of (first + time) room
grid-get rooms first zero time room d in_times in_rooms = absurd (omega arith)
grid-get rooms first (suc times) zero room d in_times in_rooms =
    let here = map (value_of first) (range_with_len 0 rooms) in
    let later = flat_map (λ time. map (value_of time) (range_with_len 0 rooms)) (range_with_len (first + 1) times) in
    let long : room < length here = omega (arith, length-row rooms first) in
    let at : 0 * rooms + room ≡ room = omega arith in
    let same : first + 0 ≡ first = omega arith in
    rw (at, same) (get_or_append_left here later d room long ∙ get_or-map-range_with_len (value_of first) 0 rooms room room d in_rooms (omega arith))
grid-get rooms first (suc times) (suc time) room d in_times in_rooms =
    let here = map (value_of first) (range_with_len 0 rooms) in
    let later = flat_map (λ time. map (value_of time) (range_with_len 0 rooms)) (range_with_len (first + 1) times) in
    let at : suc time * rooms + room ≡ length here + (time * rooms + room) = omega (arith, length-row rooms first, suc-mul time rooms) in
    let same : first + 1 + time ≡ first + suc time = omega arith in
    rw at (get_or-append-add here later (time * rooms + room) d ∙ grid-get rooms (first + 1) times time room d (omega arith) in_rooms ∙ ap (λ t. value_of t room) same)

place_in_grid : (time room times rooms : ℕ) → time < times → room < rooms → time * rooms + room < times * rooms
place_in_grid time room times rooms in_times in_rooms =
    let more : suc time * rooms ≤ times * rooms = mul-le-mul_right rooms in_times in
    omega (arith, more, suc-mul time rooms)

-- a value stands at the place that its time and its room give
pub value_at_place : (c : ClassPart) (time room : ℕ) → time < length c.times → room < values_per_time c
    → slice_get (values_of c) (time * values_per_time c + room) ≡ Some (value_of time room)
value_at_place c time room in_times in_rooms =
    let long = length_of_values c in
    let within : time * values_per_time c + room < length (values_of c) = rw long (place_in_grid time room (length c.times) (values_per_time c) in_times in_rooms) in
    slice_get-get_or (values_of c) (time * values_per_time c + room) (value_of time room) within
    ∙ ap Some (grid-get (values_per_time c) 0 (length c.times) time room (value_of time room) in_times in_rooms ∙ ap (λ t. value_of t room) (zero-add time))

-- the places that the value at a place of the domain has in the times and the rooms
pub record ArePlaces (c : ClassPart) (k : ℕ) : Type 0 where
  pub time : k / values_per_time c < length c.times
  pub room : k % values_per_time c < values_per_time c
  pub value : slice_get (values_of c) k ≡ Some (value_of (k / values_per_time c) (k % values_per_time c))

divided : (k n times : ℕ) → 1 ≤ n → k < times * n → k / n < times
divided k n times some within = (div-lt_iff_lt-mul {k = n} {x = k} {y = times} some).1 within

joined : (k n : ℕ) → k / n * n + k % n ≡ k
joined k n = omega (arith, div-add-mod k n, mul_comm n (k / n))

pub places_at : (c : ClassPart) (k : ℕ) → k < length (values_of c) → ArePlaces c k
places_at c k within =
    let some : 1 ≤ values_per_time c = omega arith in
    let in_grid : k < length c.times * values_per_time c = omega (arith, length_of_values c) in
    let in_times = divided k (values_per_time c) (length c.times) some in_grid in
    let in_rooms : k % values_per_time c < values_per_time c = mod-lt k some in
    record {
      time = in_times;
      room = in_rooms;
      value = let here = value_at_place c (k / values_per_time c) (k % values_per_time c) in_times in_rooms in rw (joined k (values_per_time c)) at here;
    }

-- the domain of a class that stands there is that of its part
pub domain_of-part : (p : Parts) (class : ℕ) (c : ClassPart) → slice_get p.classes class ≡ Some c → domain_of p class ≡ values_of c
unfolding domain_of
domain_of-part p class c stands = rw stands

pub places_in : (p : Parts) (class : ℕ) (c : ClassPart) (k : ℕ) → slice_get p.classes class ≡ Some c → k < length (domain_of p class) → ArePlaces c k
places_in p class c k stands within = let domain = domain_of-part p class c stands in places_at c k (rw domain at within)

pub value_in : (p : Parts) (class : ℕ) (c : ClassPart) (k n : ℕ) → slice_get p.classes class ≡ Some c → n ≡ values_per_time c → ArePlaces c k
    → slice_get (domain_of p class) k ≡ Some (value_of (k / n) (k % n))
value_in p class c k n stands count places = rw (domain_of-part p class c stands, count) places.value

pub of_domain : (p : Parts) (class : ℕ) (c : ClassPart) (v : Value) → slice_get p.classes class ≡ Some c → class < length p.classes → IsValueFor c v → IsOfDomain p class v
of_domain p class c v stands within for = record { within = within; value = rw stands for }
