-- Proof. What is known of the targets on which a round was made: where nothing touched one since, a round on it changes nothing.
use Rattle.std.specs.Prelude.{◌≡◌, ℕ, ◌<◌, ◌≤◌, List, Option, None, Some, map, slice_get, slice_index}
use Rattle.std.specs.Option.{option_and_then}
use Rattle.tt_problem.specs.declared.parts.Parts.{Parts}
use Rattle.tt_state.specs.Snapshots.{Snapshot}
use Rattle.tt_improve.specs.declared.targets.Target.{Target}
use Rattle.tt_improve.specs.declared.targets.Looked.{Looked}
use Rattle.tt_improve.specs.declared.targets.Targets.{Targets}
use Rattle.tt_improve.specs.declared.touched.Touched.{Touched}
use Rattle.tt_improve.specs.Rounds.{changed_by}
use Rattle.tt_improve.specs.Touched.{last_of}

-- the snapshot after a round on the target at a place, none where it changes nothing
abbrev pub changed_at : Parts → Snapshot → List Target → (place : ℕ) → Option Snapshot
changed_at p s targets place = option_and_then (changed_by p s) (slice_get targets place)

-- a target on which no round was made
abbrev pub unlooked : Target → Looked
unlooked target = record { target = target; stage = 0 }

-- the targets of a table, in order
unfoldable pub targets_in : Targets → List Target
targets_in targets = map (λ looked. looked.target) targets.table.items

-- the stage in which a round was last made on each of them
unfoldable pub stages_in : Targets → List ℕ
stages_in targets = map (λ looked. looked.stage) targets.table.items

-- no target was looked at in a later stage than this one, and a round on one that was looked at after the last change that touched it
-- changes nothing
pub record KnowsIdle (p : Parts) (s : Snapshot) (targets : Targets) (touched : Touched) (stage : ℕ) : Type 0 where
  pub no_later : (place : ℕ) → slice_index (stages_in targets) place ≤ stage
  pub idle : (place : ℕ) (target : Target) → slice_get (targets_in targets) place ≡ Some target → last_of p touched target < slice_index (stages_in targets) place → changed_by p s target ≡ None
