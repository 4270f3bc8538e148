-- The table of targets, each with the stage in which a round was last made on it.
use Rattle.std.proofs.Common.{◌≡◌, ℕ, suc, ◌<◌, List, [], ◌∷◌, Some, length, map, get_or, zero, refl, sym, ap, ◌∙◌, arith}
use Rattle.std.specs.Prelude.{slice_get, slice_set, slice_index}
use Rattle.std.specs.Option.{option_map}
use Rattle.std.proofs.lemmas.List.{length-map, get_or-map, map-id, map-set}
use Rattle.std.proofs.lemmas.Option.{slice_get-map, slice_get_read}
use Rattle.std.proofs.lemmas.Simd.{map-map}
use Rattle.tt_problem.specs.declared.parts.Parts.{Parts}
use Rattle.tt_state.specs.Snapshots.{Snapshot}
use Rattle.tt_improve.specs.declared.targets.Looked.{Looked}
use Rattle.tt_improve.specs.declared.targets.Target.{Target}
use Rattle.tt_improve.specs.declared.targets.Targets.{Targets}
use Rattle.tt_improve.specs.declared.touched.Touched.{Touched}
use Rattle.tt_improve.specs.Idle.{KnowsIdle, targets_in, stages_in, unlooked}

-- the table has a target for each of its rows
pub length_in : (o : Targets) → o.table.len ≡ length (targets_in o)
unfolding targets_in
length_in o = omega (arith, o.table.ok.0, length-map o.table.items (λ (looked : Looked). looked.target))

-- and a stage for each
pub stages_whole : (o : Targets) → length (stages_in o) ≡ length (targets_in o)
unfolding targets_in stages_in
stages_whole o = omega (arith, length-map o.table.items (λ (looked : Looked). looked.target), length-map o.table.items (λ (looked : Looked). looked.stage))

inside : (o : Targets) (k : ℕ) → k < length (targets_in o) → k < length o.table.items
inside o k within = omega (arith, within, length_in o, o.table.ok.0)

-- the target at a place
pub target_at : (o : Targets) (k : ℕ) (looked : Looked) → k < length (targets_in o) → looked ≡ get_or o.table.items k looked → slice_get (targets_in o) k ≡ Some looked.target
unfolding targets_in
target_at o k looked within is =
    slice_get-map (λ (l : Looked). l.target) o.table.items k
    ∙ ap (option_map (λ (l : Looked). l.target)) (slice_get_read o.table.items (length o.table.items) k looked refl (inside o k within) is)

-- the stage at a place
pub stage_at : (o : Targets) (k : ℕ) (looked : Looked) → k < length (targets_in o) → looked ≡ get_or o.table.items k looked → slice_index (stages_in o) k ≡ looked.stage
unfolding stages_in
stage_at o k looked within is =
    get_or-map (λ (l : Looked). l.stage) o.table.items k looked 0 (inside o k within) ∙ ap (λ (l : Looked). l.stage) (sym is)

-- a row that keeps its target leaves the targets as they are
same_row : (rows : List Looked) (k : ℕ) (looked now : Looked) → looked ≡ get_or rows k looked → now.target ≡ looked.target → map (λ (l : Looked). l.target) (slice_set rows k now) ≡ map (λ (l : Looked). l.target) rows
same_row [] k looked now is same = refl
same_row (row ∷ rows) zero looked now is same = ap (λ (target : Target). target ∷ map (λ (l : Looked). l.target) rows) (same ∙ ap (λ (l : Looked). l.target) is)
same_row (row ∷ rows) (suc k) looked now is same = ap (λ (targets : List Target). row.target ∷ targets) (same_row rows k looked now is same)

pub targets_same : (o after : Targets) (k : ℕ) (looked now : Looked) → after.table.items ≡ slice_set o.table.items k now → looked ≡ get_or o.table.items k looked → now.target ≡ looked.target → targets_in after ≡ targets_in o
unfolding targets_in
targets_same o after k looked now set is same = ap (map (λ (l : Looked). l.target)) set ∙ same_row o.table.items k looked now is same

-- a stage that is noted stands in its row
pub stages_set : (o after : Targets) (k : ℕ) (now : Looked) → after.table.items ≡ slice_set o.table.items k now → stages_in after ≡ slice_set (stages_in o) k now.stage
unfolding stages_in
stages_set o after k now set = ap (map (λ (l : Looked). l.stage)) set ∙ map-set (λ (l : Looked). l.stage) o.table.items k now

-- the targets on which no round was made
pub targets_new : (o : Targets) (targets : List Target) → o.table.items ≡ map unlooked targets → targets_in o ≡ targets
unfolding targets_in
targets_new o targets is = ap (map (λ (l : Looked). l.target)) is ∙ map-map (λ (l : Looked). l.target) unlooked targets ∙ map-id targets

no_stage : (targets : List Target) (k : ℕ) → get_or (map (λ (l : Looked). l.stage) (map unlooked targets)) k 0 ≡ 0
no_stage [] k = refl
no_stage (target ∷ targets) zero = refl
no_stage (target ∷ targets) (suc k) = no_stage targets k

pub idle_new : (p : Parts) (s : Snapshot) (o : Targets) (targets : List Target) → o.table.items ≡ map unlooked targets → (touched : Touched) → KnowsIdle p s o touched 1
unfolding stages_in
idle_new p s o targets is touched =
    let none = λ (k : ℕ). ap (λ (rows : List Looked). get_or (map (λ (l : Looked). l.stage) rows) k 0) is ∙ no_stage targets k in
    record {
      no_later = λ k. omega (arith, none k);
      idle = λ k target at early. absurd (omega (arith, none k, early));
    }
