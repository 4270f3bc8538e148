-- A class that is locked stays where it is, and locked, on the whole way of a search.
use Rattle.std.proofs.Common.{◌≡◌, ◌≢◌, ℕ, zero, suc, Bool, true, false, Option, Some, None, List, [], ◌∷◌, length, refl, ap, sym, subst, ◌∙◌, arith}
use Rattle.std.specs.Prelude.{All, IfSome, drop, is_none, is_some, map, not, option_map, slice_get, slice_index_or}
use Rattle.std.specs.List.{best_of, list_any, range_with_len}
use Rattle.std.specs.Option.{option_map_or}
use Rattle.std.proofs.lemmas.Bool.{and_parts}
use Rattle.std.proofs.lemmas.Cmp.{nat_list_cmp_total}
use Rattle.std.proofs.lemmas.List.{get_or_default}
use Rattle.std.proofs.lemmas.List.Elements.{All-filter, filter_passes}
use Rattle.std.proofs.lemmas.List.MinMax.{ranks_by, IsFirstBest-from_best_of}
use Rattle.std.proofs.lemmas.Option.{slice_get_within, get_or_from_slice_get}
use Rattle.rand_core.specs.Stream.{Stream, next_u32}
use Rattle.tt_base.specs.Lists.{first_least, is_less}
use Rattle.tt_bits.specs.declared.times.Value.{Value}
use Rattle.tt_draw.specs.Draws.{drawn, random_words}
use Rattle.tt_problem.specs.declared.parts.Parts.{Parts}
use Rattle.tt_plan.specs.Domain.{IsOfDomain, domain_of}
use Rattle.tt_plan.specs.declared.placement.Placement.{Placement}
use Rattle.tt_plan.proofs.DomainLaws.{IsOfDomain_iff}
use Rattle.tt_published.specs.Timetable.{Timetable}
use Rattle.tt_state.specs.Snapshots.{Snapshot, StaysLocked, is_locked_in, value_in}
use Rattle.tt_state.specs.Values.{obstacle_of}
use Rattle.tt_state.specs.Forced.{forced}
use Rattle.tt_state.proofs.FitsLemmas.{forced_locks, forced_stays}
use Rattle.tt_search.specs.Turns.{after_turn, available_values, candidates, chosen_value, has_open_value, is_available, is_candidate, price_of, turn_of}
use Rattle.tt_search.specs.Searched.{after_turns, onward, rank_of}
use Rattle.tt_search.specs.PlaceTurns.{PlaceMoment, after_forcing, after_places, all_least, burden_of, least_values, place_turn, two_words}
use Rattle.tt_search.specs.UnderWay.{place_end, places_after, search_end}
use Rattle.tt_search.specs.Least.{IsFirstLeast}
use Rattle.tt_search.specs.Numbers.{IsAvailable}
use Rattle.tt_search.specs.LeastNow.{IsPlacementOf}
use Rattle.tt_search.proofs.ChoiceLemmas.{free_of, rest_at}
use Rattle.tt_search.proofs.FirstLemmas.{ends_at_first, place_ends_at_first}

-- what all of a list have, each that stands at a place has
pub each_at : {A : Type 0} (P : A → Type 0) (xs : List A) (k : ℕ) (x : A) → All P xs → slice_get xs k ≡ Some x → P x
each_at P xs k x all is = rw (get_or_from_slice_get xs k x x is) at (all k x (slice_get_within xs k x is))

-- so of a placement that stands in what is left of a list of a class's placements
pub stands_at : (p : Parts) (class : ℕ) (items whole : List Placement) (k : ℕ) (x : Placement) → All (IsPlacementOf p class) whole → drop k items ≡ drop k whole → slice_get items k ≡ Some x → IsPlacementOf p class x
stands_at p class items whole k x all rest at = each_at (IsPlacementOf p class) whole k x all (rest_at items whole k x rest at).0

all_cons : {A : Type 0} (P : A → Type 0) (x : A) (xs : List A) → P x → All P xs → All P (x ∷ xs)
all_cons P x xs first rest zero d lt = first
all_cons P x xs first rest (suc k) d lt = rest k d (omega (arith, lt))

-- the least of a list is one of it
least_has : {A : Type 0} (P : A → Type 0) (numbers : A → List ℕ) (xs : List A) (x : A) → All P xs → first_least numbers xs ≡ Some x → P x
least_has P numbers [] x all is = absurd (cc)
least_has P numbers (y ∷ xs) x all is =
    let first = IsFirstBest-from_best_of (ranks_by nat_list_cmp_total numbers) y xs in
    let e : slice_index_or (y ∷ xs) first.0 y ≡ x = first.2 ∙ (let both : best_of (is_less numbers) y xs ≡ x = cc in both) in
    rw e at (all first.0 y first.1.0)

-- what each turn keeps, all have that come after it
all_onward : {W A : Type 0} (P : A → Type 0) (draw : Stream → W × Stream) (turn : W → A → Option A) → ((w : W) (a b : A) → P a → turn w a ≡ Some b → P b) → (n : ℕ) (random : Stream) (a : A) → P a
    → All P (onward draw turn n random a)
unfolding onward
all_onward P draw turn keep zero random a has = λ k d lt. absurd (omega (arith, lt))
all_onward {W = W} {A = A} P draw turn keep (suc n) random a has = by (turn (draw random).0 a) refl (all_onward P draw turn keep n (draw random).1)
  where
    by : (o : Option A) → turn (draw random).0 a ≡ o → ((b : A) → P b → All P (onward draw turn n (draw random).1 b)) → All P (option_map_or (λ b. b ∷ onward draw turn n (draw random).1 b) o [])
    by None is rest = λ k d lt. absurd (omega (arith, lt))
    by (Some b) is rest =
        let next = keep (draw random).0 a b has is in
        all_cons P b (onward draw turn n (draw random).1 b) next (rest b next)

-- locked classes are placed, and those that were locked in the first snapshot stay where they were
record HasLocksOf (start s : Snapshot) : Type 0 where
  pub placed : (class : ℕ) → is_locked_in s class ≡ true → is_some (value_in s class) ≡ true
  pub stays : (class : ℕ) → StaysLocked start s class

-- a class that is unplaced isn't locked
unlocked : (start s : Snapshot) (class d : ℕ) → HasLocksOf start s → is_none (value_in s class) ≡ true → is_locked_in s d ≡ true → d ≢ class
unlocked start s class d has unplaced locked same = by (value_in s class) unplaced (has.placed class (rw same at locked))
  where
    by : (o : Option Value) → is_none o ≡ true → is_some o ≡ true → ⊥
    by None none some = cc
    by (Some v) none some = cc

-- forcing an unplaced class to an available value leaves the classes that are locked
forced_has : (p : Parts) (start s : Snapshot) (class : ℕ) (v : Value) → HasLocksOf start s → is_none (value_in s class) ≡ true → obstacle_of p s class v ≡ None → HasLocksOf start (forced p s class v)
forced_has p start s class v has unplaced none = record {
  placed = λ d locked.
      let before = was d locked in
      rw (forced_stays p s class v none d (unlocked start s class d has unplaced before) before).0 (has.placed d before);
  stays = λ d locked.
      let first = has.stays d locked in
      let next = forced_stays p s class v none d (unlocked start s class d has unplaced first.1) first.1 in
      (next.0 ∙ first.0, next.1);
}
  where
    was : (d : ℕ) → is_locked_in (forced p s class v) d ≡ true → is_locked_in s d ≡ true
    was d locked = ap (λ (l : List Bool). slice_index_or l d false) (sym (forced_locks p s class v)) ∙ locked

-- and so does forcing it to one, if there is one
forced_if_has : (p : Parts) (start s : Snapshot) (class : ℕ) (o : Option Value) → HasLocksOf start s → is_none (value_in s class) ≡ true → IfSome o (λ v. obstacle_of p s class v ≡ None) → HasLocksOf start (option_map_or (forced p s class) o s)
forced_if_has p start s class None has unplaced none = has
forced_if_has p start s class (Some v) has unplaced none = forced_has p start s class v has unplaced none

-- a candidate that is drawn is unplaced
drawn_unplaced : (p : Parts) (s : Snapshot) (word class : ℕ) → drawn word (candidates p s) ≡ Some class → is_none (value_in s class) ≡ true
drawn_unplaced p s word class from =
    let candidate = each_at (λ c. is_candidate p s c ≡ true) (candidates p s) _ class (filter_passes (is_candidate p s) (range_with_len 0 (length p.classes))) from in
    (and_parts (is_none (value_in s class)) (has_open_value p s.closures class) candidate).0

-- the chosen value is available
chosen_free : (p : Parts) (published : Option Timetable) (s : Snapshot) (class : ℕ) (o : Option Value) → chosen_value p published s class ≡ o → IfSome o (λ v. obstacle_of p s class v ≡ None)
unfolding chosen_value
chosen_free p published s class None from = tt
chosen_free p published s class (Some v) from =
    free_of p s class v (least_has (λ w. is_available p s class w ≡ true) (price_of p published s class) (available_values p s class) v (filter_passes (is_available p s class) (domain_of p class)) from)

-- a turn leaves the classes that are locked
turn_has : (p : Parts) (published : Option Timetable) (start : Snapshot) (word : ℕ) (s t : Snapshot) → HasLocksOf start s → turn_of p published word s ≡ Some t → HasLocksOf start t
unfolding turn_of
turn_has p published start word s t has is = by (drawn word (candidates p s)) refl is
  where
    by : (o : Option ℕ) → drawn word (candidates p s) ≡ o → option_map (after_turn p published s) o ≡ Some t → HasLocksOf start t
    by None from is = absurd (cc)
    by (Some class) from is =
        let after : after_turn p published s class ≡ t = cc in
        rw after at (forced_if_has p start s class (chosen_value p published s class) has (drawn_unplaced p s word class from) (chosen_free p published s class (chosen_value p published s class) refl))

all_of_domain : (p : Parts) (class : ℕ) → All (IsOfDomain p class) (domain_of p class)
all_of_domain p class k d within = (IsOfDomain_iff p class (slice_index_or (domain_of p class) k d)).1 (k, within, get_or_default (domain_of p class) k (slice_index_or (domain_of p class) k d) d within)

-- the available values that are least are available
pub least_available : (p : Parts) (s : Snapshot) (class : ℕ) (numbers : Value → List ℕ) → All (IsAvailable p s class) (all_least numbers (available_values p s class))
least_available p s class numbers =
    All-filter (λ v. not (list_any (λ w. is_less numbers w v) (available_values p s class))) (IsAvailable p s class) (available_values p s class)
    (λ k d within. record {
      domain = All-filter (is_available p s class) (IsOfDomain p class) (domain_of p class) (all_of_domain p class) k d within;
      free = free_of p s class _ (filter_passes (is_available p s class) (domain_of p class) k d within);
    })

-- they are of the class's domain
pub least_of_domain : (p : Parts) (s : Snapshot) (class : ℕ) (numbers : Value → List ℕ) (values : List Value) → values ≡ all_least numbers (available_values p s class) → All (IsOfDomain p class) values
least_of_domain p s class numbers values are = subst (λ (vs : List Value). All (IsOfDomain p class) vs) (sym are) (λ k d within. (least_available p s class numbers k d within).domain)

-- what stands at a place among available values is available
pub standing_available : (p : Parts) (s : Snapshot) (class k : ℕ) (values : List Value) (o : Option Value) → All (IsAvailable p s class) values → slice_get values k ≡ o → IfSome o (IsAvailable p s class)
standing_available p s class k values None all from = tt
standing_available p s class k values (Some v) all from = each_at (IsAvailable p s class) values k v all from

drawn_free : (p : Parts) (m : PlaceMoment) (class word : ℕ) (o : Option Value) → drawn word (least_values p m class) ≡ o → IfSome o (λ v. obstacle_of p m.snapshot class v ≡ None)
unfolding least_values
drawn_free p m class word None from = tt
drawn_free p m class word (Some v) from = (standing_available p m.snapshot class _ (all_least (burden_of p m class) (available_values p m.snapshot class)) (Some v) (least_available p m.snapshot class (burden_of p m class)) from).free

-- the snapshot after a class is forced, if there is a value
snapshot_after : (p : Parts) (m : PlaceMoment) (class : ℕ) (o : Option Value) → (after_forcing p m class o).snapshot ≡ option_map_or (forced p m.snapshot class) o m.snapshot
snapshot_after p m class None = refl
snapshot_after p m class (Some v) = refl

-- a turn that learns leaves the classes that are locked
place_turn_has : (p : Parts) (start : Snapshot) (words : ℕ × ℕ) (m n : PlaceMoment) → HasLocksOf start m.snapshot → place_turn p words m ≡ Some n → HasLocksOf start n.snapshot
unfolding place_turn
place_turn_has p start (class_word, value_word) m n has is = by (drawn class_word (candidates p m.snapshot)) refl is
  where
    forces : (class : ℕ) → Option Value → PlaceMoment
    forces class o = after_forcing p m class o

    by : (o : Option ℕ) → drawn class_word (candidates p m.snapshot) ≡ o → option_map (λ class. after_forcing p m class (drawn value_word (least_values p m class))) o ≡ Some n → HasLocksOf start n.snapshot
    by None from is = absurd (cc)
    by (Some class) from is =
        let value = drawn value_word (least_values p m class) in
        let after : forces class value ≡ n = cc in
        let kept = forced_if_has p start m.snapshot class value has (drawn_unplaced p m.snapshot class_word class from) (drawn_free p m class value_word value refl) in
        rw after at (rw (sym (snapshot_after p m class value)) at kept)

-- where all snapshots of a way leave the locked classes, so does where it ends
ends_locked : (numbers : Snapshot → List ℕ) (s : Snapshot) (rest : List Snapshot) (t : Snapshot) → HasLocksOf s s → All (HasLocksOf s) rest → ((place : ℕ) × IsFirstLeast numbers (s ∷ rest) place t) → (class : ℕ) → StaysLocked s t class
ends_locked numbers s rest t start all first = (each_at (HasLocksOf s) (s ∷ rest) first.0 t (all_cons (HasLocksOf s) s rest start all) first.1.at).stays

-- at first all locked classes are where they are
starts_locked : (s : Snapshot) → ((class : ℕ) → is_locked_in s class ≡ true → is_some (value_in s class) ≡ true) → HasLocksOf s s
starts_locked s placed = record { placed = placed; stays = λ class locked. (refl, locked) }

-- where a search ends, each class that was locked is where it was, and locked
pub locked_stay : (p : Parts) (published : Option Timetable) (n seed : ℕ) (s t : Snapshot) → ((class : ℕ) → is_locked_in s class ≡ true → is_some (value_in s class) ≡ true) → search_end p published n seed s ≡ t
    → (class : ℕ) → StaysLocked s t class
locked_stay p published n seed s t placed is =
    let start = starts_locked s placed in
    let all = all_onward (HasLocksOf s) next_u32 (turn_of p published) (λ word a b. turn_has p published s word a b) n (random_words seed) s start in
    ends_locked (rank_of p published) s (after_turns p published n seed s) t start all (ends_at_first p published n seed s t is)

all_of_map : {A B : Type 0} (P : B → Type 0) (f : A → B) (xs : List A) → All (λ x. P (f x)) xs → All P (map f xs)
all_of_map P f [] all = λ k d lt. absurd (omega (arith, lt))
all_of_map P f (x ∷ xs) all = all_cons P (f x) (map f xs) (all 0 x (omega arith)) (all_of_map P f xs (λ k d lt. all (suc k) d (omega (arith, lt))))

-- and so where turns that learn end
pub place_locked_stay : (p : Parts) (n seed : ℕ) (s t : Snapshot) → ((class : ℕ) → is_locked_in s class ≡ true → is_some (value_in s class) ≡ true) → place_end p n seed s ≡ t → (class : ℕ) → StaysLocked s t class
place_locked_stay p n seed s t placed is =
    let start = starts_locked s placed in
    let all = all_onward (λ m. HasLocksOf s m.snapshot) two_words (place_turn p) (λ words a b. place_turn_has p s words a b) n (random_words seed) (record { snapshot = s; outs = [] }) start in
    ends_locked (rank_of p None) s (places_after p n seed s) t start (all_of_map (HasLocksOf s) (λ m. m.snapshot) (after_places p n seed s) all) (place_ends_at_first p n seed s t is)
