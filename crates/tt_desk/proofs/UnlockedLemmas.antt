-- With no class locked.
use Rattle.std.proofs.Common.{◌≡◌, ◌∙◌, ℕ, zero, suc, Bool, true, false, List, [], ◌∷◌, Option, Some, None, length, map, refl, sym, ap}
use Rattle.std.specs.Prelude.{filter, option_map, is_none, is_some, not, ◌&&◌, slice_index_or, slice_set}
use Rattle.std.specs.List.{find, range_with_len}
use Rattle.std.specs.Option.{option_and_then}
use Rattle.tt_base.specs.Lists.{first_least}
use Rattle.tt_bits.specs.declared.times.Value.{Value}
use Rattle.tt_clash.specs.declared.Block.{Block}
use Rattle.tt_deluge.specs.ClassRounds.{moved_by_conflict_set, exchanged, exchange_value}
use Rattle.tt_desk.specs.Unlocked.{IsWithoutLocks, moment_of}
use Rattle.tt_improve.specs.Targets.{movable_classes}
use Rattle.tt_plan.specs.Domain.{domain_of}
use Rattle.tt_problem.specs.declared.parts.Parts.{Parts}
use Rattle.tt_search.specs.PlaceTurns.{all_least, burden_of, least_values}
use Rattle.tt_search.specs.Recalled.{recalled_locks, stays_locked}
use Rattle.tt_search.specs.Turns.{chosen_value, is_available, is_open, price_of}
use Rattle.tt_published.specs.Published.{published_value}
use Rattle.tt_published.specs.Timetable.{Timetable}
use Rattle.tt_state.specs.declared.obstacle.Obstacle.TheVariants.{Blocked, Held}
use Rattle.tt_state.specs.Snapshots.{Snapshot, is_locked_in, may_lock, value_in, with_unplaced, with_value}
use Rattle.tt_state.specs.Values.{blocked_of, conflict_set_of, holder_of, obstacle_by, obstacle_of}

none_found : (test : ℕ → Bool) (xs : List ℕ) → ((x : ℕ) → test x ≡ false) → find test xs ≡ None
none_found test [] none = refl
none_found test (x ∷ xs) none = rw (none x) (none_found test xs none)

alike : {A : Type 0} (f g : A → Bool) → ((x : A) → f x ≡ g x) → (xs : List A) → filter f xs ≡ filter g xs
alike f g same [] = refl
alike f g same (x ∷ xs) = rw (same x, alike f g same xs) refl

set_false : (xs : List Bool) (place : ℕ) → slice_index_or xs place false ≡ false → slice_set xs place false ≡ xs
set_false [] place is = refl
set_false (x ∷ xs) zero is = ap (λ (b : Bool). b ∷ xs) (sym is)
set_false (x ∷ xs) (suc place) is = ap (λ (l : List Bool). x ∷ l) (set_false xs place is)

none_mapped : (f : ℕ → Bool) → ((class : ℕ) → f class ≡ false) → (xs : List ℕ) (place : ℕ) → slice_index_or (map f xs) place false ≡ false
none_mapped f none [] place = refl
none_mapped f none (x ∷ xs) zero = none x
none_mapped f none (x ∷ xs) (suc place) = none_mapped f none xs place

and_true : (b : Bool) → (b && not false) ≡ b
and_true true = refl
and_true false = refl

module _ (p : Parts) (s : Snapshot) (free : (class : ℕ) → is_locked_in s class ≡ false) where
  obstacles : (class : ℕ) (v : Value) → obstacle_of p s class v ≡ option_map (λ (b : Block). Blocked b) (blocked_of p s.closures class v)
  unfolding obstacle_of holder_of
  obstacles class v = by (blocked_of p s.closures class v)
    where
      by : (o : Option Block) → obstacle_by p s class v o ≡ option_map (λ (b : Block). Blocked b) o
      by (Some block) = refl
      by None = ap (option_map (λ other. Held other)) (none_found (is_locked_in s) (conflict_set_of p s class v) free)

  available : (class : ℕ) (v : Value) → is_available p s class v ≡ is_open p s.closures class v
  available class v = ap is_none (obstacles class v) ∙ by (blocked_of p s.closures class v)
    where
      by : (o : Option Block) → is_none (option_map (λ (b : Block). Blocked b) o) ≡ is_none o
      by None = refl
      by (Some block) = refl

  choices : (published : Option Timetable) (class : ℕ) → chosen_value p published s class ≡ first_least (price_of p published s class) (filter (is_open p s.closures class) (domain_of p class))
  unfolding chosen_value
  choices published class = ap (first_least (price_of p published s class)) (alike (is_available p s class) (is_open p s.closures class) (available class) (domain_of p class))

  placings : (outs : List ℕ) (class : ℕ) → least_values p (moment_of s outs) class ≡ all_least (burden_of p (moment_of s outs) class) (filter (is_open p s.closures class) (domain_of p class))
  unfolding least_values
  placings outs class = ap (all_least (burden_of p (moment_of s outs) class)) (alike (is_available p s class) (is_open p s.closures class) (available class) (domain_of p class))

  exchanges : (class : ℕ) (v : Value) (other : ℕ) → moved_by_conflict_set p s class v (other ∷ []) ≡ option_and_then (exchanged p s class v other) (exchange_value p s class other)
  exchanges class v other = rw (free other) refl

  objects : movable_classes p s ≡ filter (λ class. is_some (value_in s class)) (range_with_len 0 (length p.classes))
  unfolding movable_classes
  objects =
      alike (may_lock s) (λ class. is_some (value_in s class)) (λ class. ap (λ (b : Bool). is_some (value_in s class) && not b) (free class) ∙ and_true (is_some (value_in s class))) (range_with_len 0 (length p.classes))

  unplaced : (class : ℕ) → with_unplaced s class ≡ with_value s class None
  unplaced class =
      ap (λ (l : List Bool). record { plan = slice_set s.plan class None; lists = s.lists; statistics = s.statistics; closures = s.closures; locks = l }) (set_false s.locks class (free class))

  recalled : (t : Timetable) (class : ℕ) → slice_index_or (recalled_locks p t s) class false ≡ false
  unfolding recalled_locks
  recalled t class = none_mapped (λ class. stays_locked s class (published_value p t class)) (λ class. rw (free class) refl) (range_with_len 0 (length p.classes)) class

  pub without_locks : IsWithoutLocks p s
  without_locks = record { obstacles = obstacles; choices = choices; placings = placings; objects = objects; exchanges = exchanges; unplaced = unplaced; recalled = recalled }
