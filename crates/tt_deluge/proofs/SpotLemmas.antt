-- The first value of a class at a time and in a room: the first such time with the first such room.
use Rattle.std.proofs.Common.{◌≡◌, ℕ, zero, suc, ◌+◌, ◌<◌, ◌≤◌, Bool, true, false, cond, List, [], ◌∷◌, ◌++◌, Option, Some, None, length, map, max, refl, sym, ap, ◌∙◌, arith}
use Rattle.std.specs.Prelude.{◌&&◌, ◌==◌, is_some, nat_eq, slice_get, if◌then◌else◌}
use Rattle.std.specs.Bool.{then_some}
use Rattle.std.specs.List.{find, flat_map, range_with_len}
use Rattle.std.specs.Option.{option_and_then, option_eq, option_map, option_map_or, option_or}
use Rattle.std.proofs.lemmas.Bool.{ne_eqb}
use Rattle.tt_bits.specs.declared.times.Spot.{Spot}
use Rattle.tt_bits.specs.declared.times.Time.{Time}
use Rattle.tt_bits.specs.declared.times.Value.{Value}
use Rattle.tt_problem.specs.declared.parts.ClassPart.{ClassPart}
use Rattle.tt_problem.specs.declared.parts.Parts.{Parts}
use Rattle.tt_problem.specs.declared.parts.RoomChoice.{RoomChoice}
use Rattle.tt_problem.specs.declared.parts.TimeChoice.{TimeChoice}
use Rattle.tt_plan.specs.Domain.{spot_at_value, spot_for, value_of, values_per_time}
use Rattle.tt_plan.proofs.DomainLemmas.{domain_of-part}
use Rattle.tt_state.specs.Snapshots.{Snapshot, value_in}
use Rattle.tt_deluge.specs.ClassRounds.{begin_alike, exchange_value, spot_in, stands_at, value_at_time}
use Rattle.tt_deluge.specs.Places.{is_alike_at, is_room_at, place_of_room, place_of_time}

find-append : {A : Type 0} (test : A → Bool) (xs ys : List A) → find test (xs ++ ys) ≡ option_or (find test xs) (find test ys)
find-append test [] ys = refl
find-append {A = A} test (x ∷ xs) ys = by (test x) (find-append test xs ys)
  where
    by : (b : Bool) → find test (xs ++ ys) ≡ option_or (find test xs) (find test ys) → cond b (Some x) (find test (xs ++ ys)) ≡ option_or (cond b (Some x) (find test xs)) (find test ys)
    by true rest = refl
    by false rest = rest

-- a row of the grid whose time is right
row-right : (test : Value → Bool) (h : ℕ → Bool) (time : ℕ) (rooms : List ℕ) → ((room : ℕ) → test (value_of time room) ≡ h room) → find test (map (value_of time) rooms) ≡ option_map (value_of time) (find h rooms)
row-right test h time [] same = refl
row-right test h time (room ∷ rooms) same = by (test (value_of time room)) (h room) (same room) (row-right test h time rooms same)
  where
    by : (a b : Bool) → a ≡ b → find test (map (value_of time) rooms) ≡ option_map (value_of time) (find h rooms)
        → cond a (Some (value_of time room)) (find test (map (value_of time) rooms)) ≡ option_map (value_of time) (cond b (Some room) (find h rooms))
    by true true e rest = refl
    by false false e rest = rest
    by true false e rest = absurd (cc e)
    by false true e rest = absurd (cc e)

-- and one whose time is not
row-wrong : (test : Value → Bool) (time : ℕ) (rooms : List ℕ) → ((room : ℕ) → test (value_of time room) ≡ false) → find test (map (value_of time) rooms) ≡ None
row-wrong test time [] wrong = refl
row-wrong test time (room ∷ rooms) wrong = ap (λ (b : Bool). cond b (Some (value_of time room)) (find test (map (value_of time) rooms))) (wrong room) ∙ row-wrong test time rooms wrong

no-room : (time : Option ℕ) → option_and_then (λ (t : ℕ). option_map (value_of t) None) time ≡ None
no-room None = refl
no-room (Some t) = refl

grid : (test : Value → Bool) (g h : ℕ → Bool) (rooms : List ℕ) → ((time room : ℕ) → test (value_of time room) ≡ (g time && h room)) → (times : List ℕ)
    → find test (flat_map (λ time. map (value_of time) rooms) times) ≡ option_and_then (λ t. option_map (value_of t) (find h rooms)) (find g times)
grid test g h rooms same [] = refl
grid test g h rooms same (time ∷ times) =
    find-append test (map (value_of time) rooms) (flat_map (λ time. map (value_of time) rooms) times) ∙ by (g time) refl (grid test g h rooms same times)
  where
    whole : g time ≡ true → (o : Option ℕ) → find h rooms ≡ o → find test (flat_map (λ time. map (value_of time) rooms) times) ≡ option_and_then (λ t. option_map (value_of t) o) (find g times)
        → option_or (option_map (value_of time) o) (find test (flat_map (λ time. map (value_of time) rooms) times)) ≡ option_map (value_of time) o
    whole e None is rest = rest ∙ no-room (find g times)
    whole e (Some room) is rest = refl

    by : (b : Bool) → g time ≡ b → find test (flat_map (λ time. map (value_of time) rooms) times) ≡ option_and_then (λ t. option_map (value_of t) (find h rooms)) (find g times)
        → option_or (find test (map (value_of time) rooms)) (find test (flat_map (λ time. map (value_of time) rooms) times)) ≡ option_and_then (λ t. option_map (value_of t) (find h rooms)) (cond b (Some time) (find g times))
    by true e rest =
        let row = row-right test h time rooms (λ (room : ℕ). same time room ∙ ap (λ (b : Bool). b && h room) e) in
        ap (λ (o : Option Value). option_or o (find test (flat_map (λ time. map (value_of time) rooms) times))) row ∙ whole e (find h rooms) refl rest
    by false e rest =
        let row = row-wrong test time rooms (λ (room : ℕ). same time room ∙ ap (λ (b : Bool). b && h room) e) in
        ap (λ (o : Option Value). option_or o (find test (flat_map (λ time. map (value_of time) rooms) times))) row ∙ rest

-- whether a value of a class stands at a time and in a room, by its places
stands-by : (p : Parts) (class : ℕ) (c : ClassPart) (t : Time) (room : Option ℕ) (v : Value) → slice_get p.classes class ≡ Some c → stands_at p class t room v ≡ (is_alike_at c.times t v.time && is_room_at c.rooms room v.room)
unfolding spot_at_value
stands-by p class c t room v is =
    ap (λ (o : Option ClassPart). option_map_or (λ (x : Spot). begin_alike x.time t && option_eq nat_eq x.room room) (option_and_then (λ (c : ClassPart). spot_for c v) o) false) is ∙ by (slice_get c.times v.time)
  where
    by : (o : Option TimeChoice)
        → option_map_or (λ (x : Spot). begin_alike x.time t && option_eq nat_eq x.room room) (option_map (λ (time : TimeChoice). record { time = time.time; room = option_map (λ (r : RoomChoice). r.room) (slice_get c.rooms v.room) }) o) false
        ≡ (option_map_or (λ (choice : TimeChoice). begin_alike choice.time t) o false && is_room_at c.rooms room v.room)
    by None = refl
    by (Some time) = refl

pub value-by-places : (p : Parts) (class : ℕ) (c : ClassPart) (t : Time) (room : Option ℕ) → slice_get p.classes class ≡ Some c
    → value_at_time p class t room ≡ option_and_then (λ time. option_map (value_of time) (place_of_room c.rooms room)) (place_of_time c.times t)
value-by-places p class c t room is =
    ap (find (stands_at p class t room)) (domain_of-part p class c is)
    ∙ grid (stands_at p class t room) (is_alike_at c.times t) (is_room_at c.rooms room) (range_with_len 0 (values_per_time c)) (λ (time place : ℕ). stands-by p class c t room (value_of time place) is) (range_with_len 0 (length c.times))

-- where no room is asked for
pub place-of-none : (rooms : List RoomChoice) → (if length rooms == 0 then Some 0 else None) ≡ place_of_room rooms None
place-of-none [] = refl
place-of-none (r ∷ rooms) =
    let some : (length (r ∷ rooms) == 0) ≡ false = ne_eqb (length (r ∷ rooms)) 0 (λ e. omega (arith, e)) in
    let most : max 1 (length (r ∷ rooms)) ≡ suc (length rooms) = omega arith in
    ap (λ (b : Bool). if b then Some 0 else None) some
    ∙ sym (ap (λ (n : ℕ). find (is_room_at (r ∷ rooms) None) (range_with_len 0 n)) most ∙ none (r ∷ rooms) 0 (suc (length rooms)) (omega arith))
  where
    fails : (rooms : List RoomChoice) (k : ℕ) → k < length rooms → is_room_at rooms None k ≡ false
    fails [] k within = absurd (omega arith)
    fails (r ∷ rooms) zero within = refl
    fails (r ∷ rooms) (suc k) within = fails rooms k (omega arith)

    none : (all : List RoomChoice) (a n : ℕ) → a + n ≤ length all → find (is_room_at all None) (range_with_len a n) ≡ None
    none all a zero within = refl
    none all a (suc n) within = ap (λ (b : Bool). cond b (Some a) (find (is_room_at all None) (range_with_len (a + 1) n))) (fails all a (omega arith)) ∙ none all (a + 1) n (omega arith)

-- where one is asked for, the places of the rooms are enough
pub place-of-some : (rooms : List RoomChoice) (room : ℕ) → find (is_room_at rooms (Some room)) (range_with_len 0 (length rooms)) ≡ place_of_room rooms (Some room)
place-of-some [] room = refl
place-of-some (r ∷ rooms) room =
    let most : max 1 (suc (length rooms)) ≡ suc (length rooms) = omega arith in
    sym (ap (λ (n : ℕ). find (is_room_at (r ∷ rooms) (Some room)) (range_with_len 0 n)) most)

pub alike-at : (times : List TimeChoice) (t : Time) (place : ℕ) (choice : TimeChoice) → slice_get times place ≡ Some choice → is_alike_at times t place ≡ begin_alike choice.time t
alike-at times t place choice is = ap (λ (o : Option TimeChoice). option_map_or (λ (choice : TimeChoice). begin_alike choice.time t) o false) is

pub room-at : (rooms : List RoomChoice) (room place : ℕ) (choice : RoomChoice) → slice_get rooms place ≡ Some choice → is_room_at rooms (Some room) place ≡ (choice.room == room)
room-at rooms room place choice is = ap (λ (o : Option RoomChoice). option_eq nat_eq (option_map (λ (r : RoomChoice). r.room) o) (Some room)) is

-- the value by which the other class of an exchange comes to the time of the class
abbrev value_by_spots : Parts → (other : ℕ) → (at had : Spot) → Option Value
value_by_spots p other at had = option_or (value_at_time p other at.time at.room) (value_at_time p other at.time had.room)

-- a class to which an exchange gives a value is placed
pub exchange-placed : (p : Parts) (s : Snapshot) (class other : ℕ) (to : Value) → exchange_value p s class other ≡ Some to → is_some (value_in s other) ≡ true
unfolding exchange_value
exchange-placed p s class other to is = by (value_in s other) refl
  where
    nothing : (o : Option Spot) → option_and_then {U = Value} (λ (at : Spot). None) o ≡ Some to → ⊥
    nothing None e = cc
    nothing (Some x) e = cc

    by : (o : Option Value) → value_in s other ≡ o → is_some o ≡ true
    by (Some v) e = refl
    by None e =
        let none : option_and_then (λ (at : Spot). option_and_then (λ (had : Spot). value_by_spots p other at had) (option_and_then (spot_at_value p other) (value_in s other))) (spot_in p s class) ≡ option_and_then {U = Value} (λ (at : Spot). None) (spot_in p s class) =
        ap (λ (o : Option Value). option_and_then (λ (at : Spot). option_and_then (λ (had : Spot). value_by_spots p other at had) (option_and_then (spot_at_value p other) o)) (spot_in p s class)) e in
        absurd (nothing (spot_in p s class) (sym none ∙ is))

pub place-of-no-room : (rooms : List RoomChoice) (b : Bool) → b ≡ (length rooms == 0) → then_some b 0 ≡ place_of_room rooms None
place-of-no-room rooms true is = ap (λ (b : Bool). if b then Some 0 else None) is ∙ place-of-none rooms
place-of-no-room rooms false is = ap (λ (b : Bool). if b then Some 0 else None) is ∙ place-of-none rooms

-- the value of an exchange, by the spots of the two classes
pub exchange-no-at : (p : Parts) (s : Snapshot) (class other : ℕ) → spot_in p s class ≡ None → exchange_value p s class other ≡ None
unfolding exchange_value
exchange-no-at p s class other is = ap (option_and_then (λ (at : Spot). option_and_then (λ (had : Spot). value_by_spots p other at had) (spot_in p s other))) is

pub exchange-no-had : (p : Parts) (s : Snapshot) (class other : ℕ) (at : Spot) → spot_in p s class ≡ Some at → spot_in p s other ≡ None → exchange_value p s class other ≡ None
unfolding exchange_value
exchange-no-had p s class other at is none =
    ap (option_and_then (λ (at : Spot). option_and_then (λ (had : Spot). value_by_spots p other at had) (spot_in p s other))) is
    ∙ ap (option_and_then (λ (had : Spot). value_by_spots p other at had)) none

pub exchange-by : (p : Parts) (s : Snapshot) (class other : ℕ) (at had : Spot) (first : Option Value) → spot_in p s class ≡ Some at → spot_in p s other ≡ Some had → value_at_time p other at.time at.room ≡ first
    → exchange_value p s class other ≡ option_or first (value_at_time p other at.time had.room)
unfolding exchange_value
exchange-by p s class other at had first is had_is first_is =
    ap (option_and_then (λ (at : Spot). option_and_then (λ (had : Spot). value_by_spots p other at had) (spot_in p s other))) is
    ∙ ap (option_and_then (λ (had : Spot). value_by_spots p other at had)) had_is
    ∙ ap (λ (o : Option Value). option_or o (value_at_time p other at.time had.room)) first_is
