-- The classes of each room, while classes come and go.
use Rattle.std.proofs.Common.{◌≡◌, ◌≢◌, ◌∙◌, ℕ, ◌+◌, ◌<◌, Bool, true, false, cond, List, [], ◌∷◌, Option, Some, None, length, count_by, refl, sym, ap, zero, suc, inl, inr, arith}
use Rattle.std.specs.Prelude.{slice_set, slice_index_or, replicate, nat_lt, not, is_some, ◌==◌, All}
use Rattle.std.specs.List.{insert, remove, position_or_len}
use Rattle.std.specs.Option.{option_map_or}
use Rattle.std.proofs.Math.ListN.{get_or-eq_default}
use Rattle.std.proofs.lemmas.Bool.{cases_eq, cases_lt, and_right, eq-eqb, ne_eqb}
use Rattle.std.proofs.lemmas.List.{length-replicate, length-set, get_or-set_same, get_or-set_other}
use Rattle.std.proofs.lemmas.List.Sums.{sum_by-cons, sum_by-set, count_by-le-length}
use Rattle.tt_bits.specs.declared.times.Spot.{Spot}
use Rattle.tt_bits.specs.Pairs.{is_one_room}
use Rattle.tt_bits.specs.Spots.{spot_at, IsEmptyAt}
use Rattle.tt_bits.proofs.SpotLemmas.{count_by-placed, full_within}
use Rattle.tt_pool.specs.Places.{places_where}
use Rattle.tt_pool.specs.Pools.{Pooled, list_at}
use Rattle.tt_pool.proofs.PlaceLemmas.{places-more, places-less, places-same, places-found, places-within, sum-places_of}
use Rattle.tt_occupancy.specs.Rooms.{is_in_room, has_room, classes_in, AreListed}
use Rattle.tt_occupancy.specs.Clashes.{clash, clashes_in_room, clash_count}

-- nobody is in no room
pub none_in_no_room : (from : ℕ) (h : List (Option Spot)) → places_where (is_in_room None) from h ≡ []
none_in_no_room from [] = refl
none_in_no_room from (None ∷ h) = none_in_no_room (from + 1) h
none_in_no_room from (Some x ∷ h) = none_in_no_room (from + 1) h

from_zero : (p : ℕ) → 0 + p ≡ p
from_zero p = omega arith

-- a class in a room is in its list
listed_in : (h : List (Option Spot)) (room : Option ℕ) (class : ℕ) → class < length h → is_in_room room (spot_at h class) ≡ true → 0 < count_by (λ y. y == class) (classes_in h room)
listed_in h room class within is = rw (from_zero class) at (places-found (is_in_room room) 0 class h None within is)

-- a class elsewhere does not clash
no_clash : (x : Spot) (s : Option Spot) → is_in_room x.room s ≡ false → option_map_or (clash x) s false ≡ false
unfolding clash
no_clash x None e = refl
no_clash x (Some y) e = rw e refl

pub no_clash_at : (h : List (Option Spot)) (x : Spot) (except class : ℕ) → is_in_room x.room (spot_at h class) ≡ false → clashes_in_room h except x class ≡ false
no_clash_at h x except class e = and_right (not (class == except)) _ (no_clash x (spot_at h class) e)

-- a class clashes where it does once the one excepted is taken out
clashes_without : (h : List (Option Spot)) (x : Spot) (except class : ℕ) → class < length h
    → option_map_or (clash x) (spot_at (slice_set h except None) class) false ≡ clashes_in_room h except x class
clashes_without h x except class within =
    elim (cases_eq class except) [
      | inl same ↦ rw (← same, get_or-set_same h class None None within, eq-eqb class class refl) refl
      | inr other ↦ rw (get_or-set_other h except class None None other, ne_eqb class except other) refl
    ]

-- the clashes among the classes of the room are all
pub clash_count-in_room : (h : List (Option Spot)) (x : Spot) (except : ℕ) → count_by (clashes_in_room h except x) (classes_in h x.room) ≡ clash_count h x except
clash_count-in_room h x except =
    let one : Bool → ℕ = λ b. cond b 1 0 in
    sum-places_of (is_in_room x.room) (λ class. one (clashes_in_room h except x class)) (λ s. one (option_map_or (clash x) s false))
    0 h (slice_set h except None) None (sym (length-set h except None)) (λ i lt passes. rw (from_zero i) (ap one (sym (clashes_without h x except i lt))))
    (λ i lt fails. ap one (clashes_without h x except i lt ∙ no_clash_at h x except i fails))
    ∙ sym (count_by-placed (clash x) (slice_set h except None))

-- nobody placed: empty lists
places-empty : (room : Option ℕ) (from n : ℕ) → places_where (is_in_room room) from (replicate n None) ≡ []
places-empty room from zero = refl
places-empty room from (suc n) = places-empty room (from + 1) n

count-empty : (n : ℕ) → count_by has_room (replicate n None) ≡ 0
count-empty zero = refl
count-empty (suc n) = omega (arith, sum_by-cons (λ s. cond (has_room s) 1 0) None (replicate n None), count-empty n)

empty_list : (rooms room : ℕ) → slice_index_or (replicate {A = List ℕ} rooms []) room [] ≡ []
empty_list zero room = refl
empty_list (suc rooms) zero = refl
empty_list (suc rooms) (suc room) = empty_list rooms room

pub AreListed-new : (n rooms : ℕ) (pool : Pooled) → pool.lists ≡ replicate rooms [] → pool.spare ≡ n → AreListed (replicate n None) pool
AreListed-new n rooms pool lists spare = record {
  lists = λ room. ap (λ (l : List (List ℕ)). slice_index_or l room []) lists ∙ empty_list rooms room ∙ sym (places-empty (Some room) 0 n);
  spare = omega (arith, spare, count-empty n, length-replicate {A = Option Spot} n None);
}

-- how the number of classes that have a room changes
count-change : (h : List (Option Spot)) (p : ℕ) (s : Option Spot) (was is : Bool) → p < length h → has_room (spot_at h p) ≡ was → has_room s ≡ is
    → count_by has_room (slice_set h p s) + cond was 1 0 ≡ count_by has_room h + cond is 1 0
count-change h p s was is within had has =
    omega (
      arith,
      sum_by-set (λ z. cond (has_room z) 1 0) h p s None within,
      ap {B = ℕ} (λ (b : Bool). cond b 1 0) had,
      ap {B = ℕ} (λ (b : Bool). cond b 1 0) has,
    )

-- a class without a room is in none
no_room_in : (room : ℕ) (o : Option ℕ) → is_some o ≡ false → is_one_room (Some room) o ≡ false
no_room_in room None e = refl
no_room_in room (Some a) e = absurd (cc e)

not_in : (room : ℕ) (s : Option Spot) → has_room s ≡ false → is_in_room (Some room) s ≡ false
not_in room None e = refl
not_in room (Some x) e = no_room_in room x.room e

-- a class that comes or goes without a room changes no list
pub AreListed-same : (h : List (Option Spot)) (p : ℕ) (s : Option Spot) (pool : Pooled) → p < length h → has_room (spot_at h p) ≡ false → has_room s ≡ false
    → AreListed h pool → AreListed (slice_set h p s) pool
AreListed-same h p s pool within had has kept = record {
  lists = λ room. kept.lists room ∙ sym (places-same (is_in_room (Some room)) 0 p h s None within (not_in room s has ∙ sym (not_in room (spot_at h p) had)));
  spare = omega (arith, kept.spare, count-change h p s false false within had has, length-set h p s);
}

in_its_room : (x : Spot) (room : ℕ) → x.room ≡ Some room → is_in_room (Some room) (Some x) ≡ true
in_its_room x room e = rw e (eq-eqb room room refl)

in_no_other : (x : Spot) (room other : ℕ) → x.room ≡ Some room → other ≢ room → is_in_room (Some other) (Some x) ≡ false
in_no_other x room other e ne = rw e (ne_eqb other room ne)

-- a free place is spare where a class comes
pub spare_for : (h : List (Option Spot)) (p : ℕ) (x : Spot) (room : ℕ) (pool : Pooled) → AreListed h pool → IsEmptyAt h p → x.room ≡ Some room → 0 < pool.spare
spare_for h p x room pool kept empty is =
    omega (
      arith,
      kept.spare,
      count-change h p (Some x) false true empty.0 (ap has_room empty.1) (rw is refl),
      count_by-le-length has_room (slice_set h p (Some x)),
      length-set h p (Some x),
    )

-- one list becomes that of its room, where nobody comes into another room or leaves it
lists-changed : (h : List (Option Spot)) (p : ℕ) (s : Option Spot) (room : ℕ) (old new : Pooled) (list : List ℕ) → AreListed h old → p < length h → room < length old.lists
    → ((other : ℕ) → other ≢ room → is_in_room (Some other) s ≡ is_in_room (Some other) (spot_at h p))
    → new.lists ≡ slice_set old.lists room list → list ≡ classes_in (slice_set h p s) (Some room)
    → (other : ℕ) → list_at new other ≡ classes_in (slice_set h p s) (Some other)
lists-changed h p s room old new list kept inside within others lists is other =
    ap (λ (l : List (List ℕ)). slice_index_or l other []) lists
    ∙ elim (cases_eq other room) [
      | inl same ↦ rw same (get_or-set_same old.lists room list [] within ∙ is)
      | inr ne ↦ get_or-set_other old.lists room other list [] ne ∙ kept.lists other ∙ sym (places-same (is_in_room (Some other)) 0 p h s None inside (others other ne))
    ]

-- what is kept when a class comes into a room
pub AreListed-enter : (h : List (Option Spot)) (p : ℕ) (x : Spot) (room : ℕ) (old new : Pooled) → AreListed h old → IsEmptyAt h p → x.room ≡ Some room → room < length old.lists
    → new.lists ≡ slice_set old.lists room (insert (list_at old room) (position_or_len (nat_lt p) (list_at old room)) p)
    → new.spare + 1 ≡ old.spare → AreListed (slice_set h p (Some x)) new
AreListed-enter h p x room old new kept empty is within lists spare = record {
  lists = lists-changed h p (Some x) room old new _ kept empty.0 within
      (λ other ne. in_no_other x room other is ne ∙ sym (ap (is_in_room (Some other)) empty.1)) lists
      (ap (λ (l : List ℕ). insert l (position_or_len (nat_lt p) l) p) (kept.lists room)
      ∙ sym (rw (from_zero p) at (places-more (is_in_room (Some room)) 0 p h (Some x) None empty.0 (in_its_room x room is) (ap (is_in_room (Some room)) empty.1))));
  spare = omega (arith, spare, kept.spare, count-change h p (Some x) false true empty.0 (ap has_room empty.1) (rw is refl), length-set h p (Some x));
}

-- a class that is placed in a room is in its list, which is one of the lists
pub is_listed : (h : List (Option Spot)) (p : ℕ) (x : Spot) (room : ℕ) (pool : Pooled) → AreListed h pool → spot_at h p ≡ Some x → x.room ≡ Some room
    → (room < length pool.lists) × (0 < count_by (λ y. y == p) (list_at pool room))
is_listed h p x room pool kept full is =
    let there = listed_in h (Some room) p (full_within h p (rw full refl)) (ap (is_in_room (Some room)) full ∙ in_its_room x room is) in
    let found : 0 < count_by (λ y. y == p) (list_at pool room) = rw (kept.lists room) there in (
      elim (cases_lt room (length pool.lists)) [
        | inl within ↦ within
        | inr past ↦ let none : list_at pool room ≡ [] = get_or-eq_default pool.lists [] past in absurd (omega (arith, rw none at found))
      ],
      found,
    )

-- what is kept when a class leaves a room
pub AreListed-leave : (h : List (Option Spot)) (p : ℕ) (x : Spot) (room : ℕ) (old new : Pooled) → AreListed h old → spot_at h p ≡ Some x → x.room ≡ Some room
    → new.lists ≡ slice_set old.lists room (remove (list_at old room) (position_or_len (λ y. y == p) (list_at old room)))
    → new.spare ≡ old.spare + 1 → AreListed (slice_set h p None) new
AreListed-leave h p x room old new kept full is lists spare =
    let inside = full_within h p (rw full refl) in record {
      lists = lists-changed h p None room old new _ kept inside (is_listed h p x room old kept full is).0
          (λ other ne. sym (ap (is_in_room (Some other)) full ∙ in_no_other x room other is ne)) lists
          (ap (λ (l : List ℕ). remove l (position_or_len (λ y. y == p) l)) (kept.lists room)
          ∙ sym (rw (from_zero p) at (places-less (is_in_room (Some room)) 0 p h None None inside refl (ap (is_in_room (Some room)) full ∙ in_its_room x room is))));
      spare = omega (arith, spare, kept.spare, count-change h p None true false inside (ap has_room full ∙ rw is refl) refl, length-set h p None);
    }

-- the classes in a room are classes
pub classes-within : (h : List (Option Spot)) (room : Option ℕ) → All (λ class. class < length h) (classes_in h room)
classes-within h room = places-within (is_in_room room) 0 (length h) h (omega arith)
