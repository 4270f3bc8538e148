-- The classes of each room on each day, while classes come and go.
use Rattle.std.proofs.Common.{◌≡◌, ◌≢◌, ◌∙◌, ℕ, ◌+◌, ◌*◌, ◌<◌, ◌≤◌, Bool, true, false, cond, List, [], ◌∷◌, Option, Some, None, length, count_by, sum_by, refl, sym, ap, zero, suc, inl, inr, arith}
use Rattle.std.specs.Prelude.{IfSome, slice_set, slice_index_or, replicate, nat_lt, ◌==◌, ◌&&◌, All}
use Rattle.std.specs.List.{insert, remove, position_or_len}
use Rattle.std.specs.Option.{option_map_or}
use Rattle.std.proofs.Math.ListN.{get_or-eq_default}
use Rattle.std.proofs.lemmas.Bool.{cases_eq, cases_lt, cases_Bool, and_right, and_parts, false≢true, eq-eqb, ne_eqb, lt-ltb, le-ltb}
use Rattle.std.proofs.lemmas.List.{length-replicate, length-set, get_or-set_same, get_or-set_other}
use Rattle.std.proofs.lemmas.List.Sums.{sum_by-cons, sum_by-set, sum_by-le}
use Rattle.tt_base.specs.Sets.{has, share}
use Rattle.tt_base.proofs.SetLemmas.{some_place, has_above}
use Rattle.tt_bits.specs.declared.times.Spot.{Spot}
use Rattle.tt_bits.specs.Sets.{day_set}
use Rattle.tt_bits.specs.Pairs.{is_one_room}
use Rattle.tt_bits.specs.Spots.{spot_at, IsEmptyAt}
use Rattle.tt_bits.proofs.SpotLemmas.{full_within}
use Rattle.tt_bits.proofs.SetLemmas.{day_set-lt}
use Rattle.tt_pool.specs.Places.{places_where}
use Rattle.tt_pool.specs.Pools.{Pooled, list_at}
use Rattle.tt_pool.proofs.PlaceLemmas.{places-more, places-less, places-same, places-found, places-within}
use Rattle.tt_occupancy.specs.Clashes.{clash}
use Rattle.tt_occupancy.specs.Rooms.{AreListed}
use Rattle.tt_occupancy.proofs.RoomLemmas.{is_listed}
use Rattle.tt_occupancy.specs.RoomDays.{is_on, classes_on, meets_on, days_below, days_taken, AreOnDays}

-- the lists of the days below k have their classes by the second spots, the others by the first
pub record AreTurned (from to : List (Option Spot)) (k : ℕ) (by_day : Pooled) : Type 0 where
  pub lists : (room day : ℕ) → day < 7 → list_at by_day (room * 7 + day) ≡ classes_on (cond (nat_lt day k) to from) (Some room) day

pub turned-none : (from to : List (Option Spot)) (by_day : Pooled) → AreOnDays from by_day → AreTurned from to 0 by_day
turned-none from to by_day kept = record { lists = λ room day w. rw (le-ltb day 0 (omega arith)) (kept.lists room day w) }

turned-all : (from to : List (Option Spot)) (by_day : Pooled) → AreTurned from to 7 by_day → (room day : ℕ) → day < 7 → list_at by_day (room * 7 + day) ≡ classes_on to (Some room) day
turned-all from to by_day all room day w = rw (lt-ltb day 7 w) at (all.lists room day w)

-- a list of a day to come is as it was
turned-here : (from to : List (Option Spot)) (k : ℕ) (by_day : Pooled) → AreTurned from to k by_day → k < 7 → (room : ℕ) → list_at by_day (room * 7 + k) ≡ classes_on from (Some room) k
turned-here from to k by_day all w room = rw (le-ltb k k (omega arith)) at (all.lists room k w)

past-other : (k day : ℕ) → day ≢ k → nat_lt day (k + 1) ≡ nat_lt day k
past-other k day ne = elim (cases_lt day k) [
  | inl below ↦ rw (lt-ltb day k below, lt-ltb day (k + 1) (omega arith)) refl
  | inr above ↦
      let over : k + 1 ≤ day = elim (cases_lt k day) [ inl lt ↦ omega (arith, lt) | inr le ↦ let same : day ≡ k = omega (arith, above, le) in absurd (ne same) ] in
      rw (le-ltb day k above, le-ltb day (k + 1) over) refl
]

-- one day more, on which nobody comes or goes
turned-skip : (from to : List (Option Spot)) (k : ℕ) (by_day : Pooled) → ((other : ℕ) → classes_on from (Some other) k ≡ classes_on to (Some other) k)
    → AreTurned from to k by_day → AreTurned from to (k + 1) by_day
turned-skip from to k by_day same all = record {
  lists = λ room day w. elim (cases_eq day k) [
    | inl here ↦
        let at : k < 7 = rw (← here) w in
        rw (here, lt-ltb k (k + 1) (omega arith)) (turned-here from to k by_day all at room ∙ same room)
    | inr ne ↦ rw (past-other k day ne) (all.lists room day w)
  ];
}

-- one day more, on which one list becomes that of its room, where nobody comes into another room or leaves it
turned-step : (from to : List (Option Spot)) (room k : ℕ) (old new : Pooled) (list : List ℕ) → k < 7 → room * 7 + k < length old.lists
    → ((other : ℕ) → other ≢ room → classes_on from (Some other) k ≡ classes_on to (Some other) k)
    → new.lists ≡ slice_set old.lists (room * 7 + k) list → list ≡ classes_on to (Some room) k
    → AreTurned from to k old → AreTurned from to (k + 1) new
turned-step from to room k old new list at within same lists is all = record {
  lists = λ other day w.
      ap (λ (l : List (List ℕ)). slice_index_or l (other * 7 + day) []) lists
      ∙ elim (cases_eq day k) [
        | inl here ↦
            rw (here, lt-ltb k (k + 1) (omega arith)) (elim (cases_eq other room) [
              | inl own ↦ rw own (get_or-set_same old.lists (room * 7 + k) list [] within ∙ is)
              | inr ne ↦ get_or-set_other old.lists (room * 7 + k) (other * 7 + k) list [] (λ e. ne (omega (arith, e))) ∙ turned-here from to k old all at other ∙ same other ne
            ])
        | inr ne ↦
            rw (past-other k day ne) (get_or-set_other old.lists (room * 7 + k) (other * 7 + day) list [] (λ e. ne (omega (arith, e, w, at))) ∙ all.lists other day w)
      ];
}

-- a class that comes or goes changes nothing where it didn't meet and doesn't
same_on : (h : List (Option Spot)) (p : ℕ) (s : Option Spot) (room day : ℕ) → p < length h → is_on (Some room) day s ≡ is_on (Some room) day (spot_at h p)
    → classes_on h (Some room) day ≡ classes_on (slice_set h p s) (Some room) day
same_on h p s room day within same = sym (places-same (is_on (Some room) day) 0 p h s None within same)

on_day : (x : Spot) (room day : ℕ) → x.room ≡ Some room → has (day_set x.time.days) day ≡ true → is_on (Some room) day (Some x) ≡ true
on_day x room day is meets =
    let here : is_one_room (Some room) x.room ≡ true = rw is (eq-eqb room room refl) in rw (here, meets) refl

off_day : (x : Spot) (room day : ℕ) → has (day_set x.time.days) day ≡ false → is_on (Some room) day (Some x) ≡ false
off_day x room day off = and_right (is_one_room (Some room) x.room) _ off

off_room : (x : Spot) (room other day : ℕ) → x.room ≡ Some room → other ≢ room → is_on (Some other) day (Some x) ≡ false
off_room x room other day is ne =
    let apart : is_one_room (Some other) x.room ≡ false = rw is (ne_eqb other room ne) in rw apart refl

no_room_on : (x : Spot) (other day : ℕ) → x.room ≡ None → is_on (Some other) day (Some x) ≡ false
no_room_on x other day is =
    let apart : is_one_room (Some other) x.room ≡ false = rw is refl in rw apart refl

-- on how many days
pub below-none : (s : Option Spot) → days_below 0 s ≡ 0
unfolding days_below
below-none s = refl

below-next : (k : ℕ) (s : Option Spot) → days_below (suc k) s ≡ cond (meets_on k s) 1 0 + days_below k s
unfolding days_below
below-next k s = refl

pub below-more : (k : ℕ) (s : Option Spot) (b : Bool) → meets_on k s ≡ b → days_below (k + 1) s ≡ cond b 1 0 + days_below k s
below-more k s b is =
    let next : k + 1 ≡ suc k = omega arith in
    ap (λ n. days_below n s) next ∙ below-next k s ∙ ap {B = ℕ} (λ (c : Bool). cond c 1 0 + days_below k s) is

below-le : (k : ℕ) (s : Option Spot) → days_below k s ≤ k
unfolding days_below
below-le zero s = omega arith
below-le (suc k) s = elim (cases_Bool (meets_on k s)) [
  | inl on ↦ rw on (omega (arith, below-le k s))
  | inr off ↦ rw off (omega (arith, below-le k s))
]

below-up : (k n : ℕ) (s : Option Spot) → k ≤ n → days_below k s ≤ days_below n s
unfolding days_below
below-up k zero s le = let none : k ≡ 0 = omega (arith, le) in rw none (omega arith)
below-up k (suc n) s le = elim (cases_lt n k) [
  | inl over ↦ let all : k ≡ suc n = omega (arith, le, over) in rw all (omega arith)
  | inr up ↦ omega (arith, below-up k n s up)
]

below-nobody : (k : ℕ) → days_below k None ≡ 0
below-nobody zero = below-none None
below-nobody (suc k) = omega (arith, below-next k None, below-nobody k)

below-nowhere : (k : ℕ) (x : Spot) → x.room ≡ None → days_below k (Some x) ≡ 0
below-nowhere zero x is = below-none (Some x)
below-nowhere (suc k) x is =
    let nowhere : meets_on k (Some x) ≡ false = rw is refl in
    omega (arith, below-next k (Some x), ap {B = ℕ} (λ (c : Bool). cond c 1 0) nowhere, below-nowhere k x is)

pub meets : (x : Spot) (room day : ℕ) (b : Bool) → x.room ≡ Some room → has (day_set x.time.days) day ≡ b → meets_on day (Some x) ≡ b
meets x room day b is on = rw is on

-- how the number of days of all classes changes
days-change : (h : List (Option Spot)) (p : ℕ) (s : Option Spot) → p < length h
    → sum_by days_taken (slice_set h p s) + days_taken (spot_at h p) ≡ sum_by days_taken h + days_taken s
days-change h p s within = sum_by-set days_taken h p s None within

-- nobody placed: empty lists
places-nobody : (room : Option ℕ) (day from n : ℕ) → places_where (is_on room day) from (replicate n None) ≡ []
places-nobody room day from zero = refl
places-nobody room day from (suc n) = places-nobody room day (from + 1) n

days-nobody : (n : ℕ) → sum_by days_taken (replicate n None) ≡ 0
days-nobody zero = refl
days-nobody (suc n) = omega (arith, sum_by-cons days_taken None (replicate n None), below-nobody 7, days-nobody n)

empty_list : (lists list : ℕ) → slice_index_or (replicate {A = List ℕ} lists []) list [] ≡ []
empty_list zero list = refl
empty_list (suc lists) zero = refl
empty_list (suc lists) (suc list) = empty_list lists list

pub AreOnDays-new : (n lists : ℕ) (by_day : Pooled) → by_day.lists ≡ replicate lists [] → by_day.spare ≡ n * 7 → AreOnDays (replicate n None) by_day
AreOnDays-new n count by_day lists spare = record {
  lists = λ room day w. ap (λ (l : List (List ℕ)). slice_index_or l (room * 7 + day) []) lists ∙ empty_list count (room * 7 + day) ∙ sym (places-nobody (Some room) day 0 n);
  spare = omega (arith, spare, days-nobody n, length-replicate {A = Option Spot} n None);
}

-- a class without a room comes
pub AreOnDays-comes : (h : List (Option Spot)) (p : ℕ) (x : Spot) (by_day : Pooled) → AreOnDays h by_day → IsEmptyAt h p → x.room ≡ None → AreOnDays (slice_set h p (Some x)) by_day
AreOnDays-comes h p x by_day kept empty is = record {
  lists = λ room day w. kept.lists room day w ∙ same_on h p (Some x) room day empty.0 (no_room_on x room day is ∙ sym (ap (is_on (Some room) day) empty.1));
  spare = omega (arith, kept.spare, days-change h p (Some x) empty.0, ap days_taken empty.1, below-nobody 7, below-nowhere 7 x is, length-set h p (Some x));
}

-- and goes
pub AreOnDays-goes : (h : List (Option Spot)) (p : ℕ) (x : Spot) (by_day : Pooled) → AreOnDays h by_day → spot_at h p ≡ Some x → x.room ≡ None → AreOnDays (slice_set h p None) by_day
AreOnDays-goes h p x by_day kept full is =
    let inside = full_within h p (rw full refl) in record {
      lists = λ room day w. kept.lists room day w ∙ same_on h p None room day inside (sym (ap (is_on (Some room) day) full ∙ no_room_on x room day is));
      spare = omega (arith, kept.spare, days-change h p None inside, ap days_taken full, below-nobody 7, below-nowhere 7 x is, length-set h p None);
    }

-- a free place is spare on a day on which a class comes
pub spare_on : (h : List (Option Spot)) (p : ℕ) (x : Spot) (room k spare : ℕ) (by_day : Pooled) → AreOnDays h by_day → IsEmptyAt h p → x.room ≡ Some room
    → k < 7 → has (day_set x.time.days) k ≡ true → spare + days_below k (Some x) ≡ by_day.spare → 0 < spare
spare_on h p x room k spare by_day kept empty is at on left =
    omega (
      arith,
      left,
      kept.spare,
      days-change h p (Some x) empty.0,
      ap days_taken empty.1,
      below-nobody 7,
      below-more k (Some x) true (meets x room k true is on),
      below-up (k + 1) 7 (Some x) (omega (arith, at)),
      sum_by-le days_taken 7 (slice_set h p (Some x)) (λ i d e. below-le 7 _),
      length-set h p (Some x),
    )

-- a class comes on a day
pub enter-step : (h : List (Option Spot)) (p : ℕ) (x : Spot) (room k : ℕ) (old new : Pooled) → IsEmptyAt h p → x.room ≡ Some room → k < 7 → room * 7 + k < length old.lists
    → has (day_set x.time.days) k ≡ true
    → new.lists ≡ slice_set old.lists (room * 7 + k) (insert (list_at old (room * 7 + k)) (position_or_len (nat_lt p) (list_at old (room * 7 + k))) p)
    → AreTurned h (slice_set h p (Some x)) k old → AreTurned h (slice_set h p (Some x)) (k + 1) new
enter-step h p x room k old new empty is at within on lists all =
    let first : 0 + p ≡ p = omega arith in
    turned-step h (slice_set h p (Some x)) room k old new _ at within
    (λ other ne. same_on h p (Some x) other k empty.0 (off_room x room other k is ne ∙ sym (ap (is_on (Some other) k) empty.1)))
    lists
    (ap (λ (l : List ℕ). insert l (position_or_len (nat_lt p) l) p) (turned-here h (slice_set h p (Some x)) k old all at room)
    ∙ sym (rw first at (places-more (is_on (Some room) k) 0 p h (Some x) None empty.0 (on_day x room k is on) (ap (is_on (Some room) k) empty.1))))
    all

-- it doesn't come on this day
pub enter-skip : (h : List (Option Spot)) (p : ℕ) (x : Spot) (k : ℕ) (by_day : Pooled) → IsEmptyAt h p → has (day_set x.time.days) k ≡ false
    → AreTurned h (slice_set h p (Some x)) k by_day → AreTurned h (slice_set h p (Some x)) (k + 1) by_day
enter-skip h p x k by_day empty off all =
    turned-skip h (slice_set h p (Some x)) k by_day (λ other. same_on h p (Some x) other k empty.0 (off_day x other k off ∙ sym (ap (is_on (Some other) k) empty.1))) all

-- it stands in the lists of all its days
pub AreOnDays-enter : (h : List (Option Spot)) (p : ℕ) (x : Spot) (k : ℕ) (old new : Pooled) → AreOnDays h old → IsEmptyAt h p → 7 ≤ k → k ≤ 7
    → new.spare + days_below k (Some x) ≡ old.spare → AreTurned h (slice_set h p (Some x)) k new → AreOnDays (slice_set h p (Some x)) new
AreOnDays-enter h p x k old new kept empty low high spare all =
    let last : k ≡ 7 = omega (arith, low, high) in record {
      lists = turned-all h (slice_set h p (Some x)) new (rw last at all);
      spare = omega (arith, kept.spare, rw last at spare, days-change h p (Some x) empty.0, ap days_taken empty.1, below-nobody 7, length-set h p (Some x));
    }

-- a class that is placed in a room stands in its list of each day on which it meets, until it is taken out
pub listed_on : (h : List (Option Spot)) (p : ℕ) (x : Spot) (room k : ℕ) (by_day : Pooled) → spot_at h p ≡ Some x → x.room ≡ Some room → k < 7 → has (day_set x.time.days) k ≡ true
    → AreTurned h (slice_set h p None) k by_day → 0 < count_by (λ y. y == p) (list_at by_day (room * 7 + k))
listed_on h p x room k by_day full is at on all =
    let first : 0 + p ≡ p = omega arith in
    let there = rw first at (places-found (is_on (Some room) k) 0 p h None (full_within h p (rw full refl)) (ap (is_on (Some room) k) full ∙ on_day x room k is on)) in
    rw (turned-here h (slice_set h p None) k by_day all at room) there

-- a class goes on a day
pub leave-step : (h : List (Option Spot)) (p : ℕ) (x : Spot) (room k : ℕ) (old new : Pooled) → spot_at h p ≡ Some x → x.room ≡ Some room → k < 7 → room * 7 + k < length old.lists
    → has (day_set x.time.days) k ≡ true
    → new.lists ≡ slice_set old.lists (room * 7 + k) (remove (list_at old (room * 7 + k)) (position_or_len (λ y. y == p) (list_at old (room * 7 + k))))
    → AreTurned h (slice_set h p None) k old → AreTurned h (slice_set h p None) (k + 1) new
leave-step h p x room k old new full is at within on lists all =
    let first : 0 + p ≡ p = omega arith in
    let inside = full_within h p (rw full refl) in
    turned-step h (slice_set h p None) room k old new _ at within
    (λ other ne. same_on h p None other k inside (sym (ap (is_on (Some other) k) full ∙ off_room x room other k is ne)))
    lists
    (ap (λ (l : List ℕ). remove l (position_or_len (λ y. y == p) l)) (turned-here h (slice_set h p None) k old all at room)
    ∙ sym (rw first at (places-less (is_on (Some room) k) 0 p h None None inside refl (ap (is_on (Some room) k) full ∙ on_day x room k is on))))
    all

-- it doesn't go on this day
pub leave-skip : (h : List (Option Spot)) (p : ℕ) (x : Spot) (k : ℕ) (by_day : Pooled) → spot_at h p ≡ Some x → has (day_set x.time.days) k ≡ false
    → AreTurned h (slice_set h p None) k by_day → AreTurned h (slice_set h p None) (k + 1) by_day
leave-skip h p x k by_day full off all =
    let inside = full_within h p (rw full refl) in
    turned-skip h (slice_set h p None) k by_day (λ other. same_on h p None other k inside (sym (ap (is_on (Some other) k) full ∙ off_day x other k off))) all

-- it stands in no list
pub AreOnDays-leave : (h : List (Option Spot)) (p : ℕ) (x : Spot) (k : ℕ) (old new : Pooled) → AreOnDays h old → spot_at h p ≡ Some x → 7 ≤ k → k ≤ 7
    → new.spare ≡ old.spare + days_below k (Some x) → AreTurned h (slice_set h p None) k new → AreOnDays (slice_set h p None) new
AreOnDays-leave h p x k old new kept full low high spare all =
    let last : k ≡ 7 = omega (arith, low, high) in
    let inside = full_within h p (rw full refl) in record {
      lists = turned-all h (slice_set h p None) new (rw last at all);
      spare = omega (arith, kept.spare, rw last at spare, days-change h p None inside, ap days_taken full, below-nobody 7, length-set h p None);
    }

-- a room has 7 lists
pub seven_lists : (o : Option ℕ) (rooms lists : ℕ) → IfSome o (λ room. room < rooms) → lists ≡ rooms * 7 → IfSome o (λ room. room * 7 + 7 ≤ lists)
seven_lists None rooms lists within is = tt
seven_lists (Some room) rooms lists within is = omega (arith, within, is)

-- the room of a class that is placed is one of the rooms
pub room_within : (h : List (Option Spot)) (p : ℕ) (x : Spot) (rooms : ℕ) (by_room : Pooled) → AreListed h by_room → spot_at h p ≡ Some x → length by_room.lists ≡ rooms
    → IfSome x.room (λ room. room < rooms)
room_within h p x rooms by_room kept full count = of x.room refl
  where
    of : (o : Option ℕ) → x.room ≡ o → IfSome o (λ room. room < rooms)
    of None is = tt
    of (Some room) is = let within = (is_listed h p x room by_room kept full is).0 in omega (arith, within, count)

-- no list beyond the rooms, and nobody in no room
pub none_on : (day from : ℕ) (h : List (Option Spot)) → places_where (is_on None day) from h ≡ []
none_on day from [] = refl
none_on day from (None ∷ h) = none_on day (from + 1) h
none_on day from (Some x ∷ h) = none_on day (from + 1) h

pub none_beyond : (h : List (Option Spot)) (by_day : Pooled) (rooms room day : ℕ) → AreOnDays h by_day → length by_day.lists ≡ rooms * 7 → rooms ≤ room → day < 7
    → [] ≡ classes_on h (Some room) day
none_beyond h by_day rooms room day kept count beyond w =
    let none : list_at by_day (room * 7 + day) ≡ [] = get_or-eq_default by_day.lists [] (omega (arith, count, beyond)) in
    sym none ∙ kept.lists room day w

-- the classes on a day are classes
pub classes_on-within : (h : List (Option Spot)) (room : Option ℕ) (day : ℕ) → All (λ class. class < length h) (classes_on h room day)
classes_on-within h room day = places-within (is_on room day) 0 (length h) h (omega arith)

both_hold : (a b : Bool) → a ≡ true → b ≡ true → (a && b) ≡ true
both_hold a b first second = rw first second

-- two that clash meet in the room on a day of both
pub shared_day : (x : Spot) (s : Option Spot) → option_map_or (clash x) s false ≡ true
    → (day : ℕ) × (day < 7) × (has (day_set x.time.days) day ≡ true) × (is_on x.room day s ≡ true)
unfolding clash share
shared_day x None e = absurd (cc e)
shared_day x (Some y) e =
    let parts = and_parts _ _ e in
    let meet = and_parts _ _ (and_parts _ _ parts.1).0 in
    let days = and_parts _ _ meet.0 in
    let found = some_place (λ i. has (day_set x.time.days) i && has (day_set y.time.days) i) days.0 in
    let both = and_parts _ _ found.2 in
    let below : found.0 < 7 = elim (cases_lt found.0 7) [
      | inl lt ↦ lt
      | inr up ↦ absurd (false≢true (sym (has_above (day_set x.time.days) 7 found.0 (day_set-lt x.time.days) up) ∙ both.0))
    ] in
    (found.0, below, both.0, both_hold _ _ parts.0 both.1)
