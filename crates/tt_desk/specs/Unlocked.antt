-- Contract. What locks change where no class is locked: nothing.
use Rattle.std.specs.Prelude.{ℕ, ◌≡◌, false, List, [], ◌∷◌, Option, None, filter, option_map, is_some, length, slice_index_or}
use Rattle.std.specs.List.{range_with_len}
use Rattle.std.specs.Option.{option_and_then}
use Rattle.tt_base.specs.Lists.{first_least}
use Rattle.tt_bits.specs.declared.times.Value.{Value}
use Rattle.tt_clash.specs.declared.Block.{Block}
use Rattle.tt_deluge.specs.ClassRounds.{moved_by_conflict_set, exchanged, exchange_value}
use Rattle.tt_improve.specs.Targets.{movable_classes}
use Rattle.tt_plan.specs.Domain.{domain_of}
use Rattle.tt_problem.specs.declared.parts.Parts.{Parts}
use Rattle.tt_search.specs.PlaceTurns.{PlaceMoment, all_least, burden_of, least_values}
use Rattle.tt_search.specs.Recalled.{recalled_locks}
use Rattle.tt_search.specs.Turns.{chosen_value, is_open, price_of}
use Rattle.tt_published.specs.Timetable.{Timetable}
use Rattle.tt_state.specs.declared.obstacle.Obstacle.TheVariants.{Blocked}
use Rattle.tt_state.specs.Snapshots.{Snapshot, value_in, with_unplaced, with_value}
use Rattle.tt_state.specs.Values.{blocked_of, obstacle_of}

-- a moment of `place`, where the turns so far took out these classes
abbrev pub moment_of : Snapshot → (outs : List ℕ) → PlaceMoment
moment_of s outs = record { snapshot = s; outs = outs }

-- what stands in the way of a value is what blocks it; a turn, of `place` too, chooses among all values that aren't blocked; each
-- placed class is an object of a descent and of a deluge, and each may be exchanged; unplacing a class takes its value alone; and a
-- return locks none
pub record IsWithoutLocks (p : Parts) (s : Snapshot) : Type 0 where
  pub obstacles : (class : ℕ) (v : Value) → obstacle_of p s class v ≡ option_map (λ (b : Block). Blocked b) (blocked_of p s.closures class v)
  pub choices : (published : Option Timetable) (class : ℕ) → chosen_value p published s class ≡ first_least (price_of p published s class) (filter (is_open p s.closures class) (domain_of p class))
  pub placings : (outs : List ℕ) (class : ℕ) → least_values p (moment_of s outs) class ≡ all_least (burden_of p (moment_of s outs) class) (filter (is_open p s.closures class) (domain_of p class))
  pub objects : movable_classes p s ≡ filter (λ class. is_some (value_in s class)) (range_with_len 0 (length p.classes))
  pub exchanges : (class : ℕ) (v : Value) (other : ℕ) → moved_by_conflict_set p s class v (other ∷ []) ≡ option_and_then (exchanged p s class v other) (exchange_value p s class other)
  pub unplaced : (class : ℕ) → with_unplaced s class ≡ with_value s class None
  pub recalled : (t : Timetable) (class : ℕ) → slice_index_or (recalled_locks p t s) class false ≡ false
