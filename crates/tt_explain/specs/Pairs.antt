-- Contract. The conflicting pairs of classes that each student has, by class.
use Rattle.std.specs.Prelude.{ℕ, ◌+◌, ◌==◌, Bool, cond, List, sum_by}
use Rattle.tt_problem.specs.declared.parts.Parts.{Parts}
use Rattle.tt_plan.specs.Domain.{spots_of}
use Rattle.tt_roster.specs.Conflicts.{in_conflict}
use Rattle.tt_state.specs.Snapshots.{Snapshot}
use Rattle.tt_explain.specs.Student.{student_pairs}

-- both classes are placed, and nobody can attend both
abbrev pub conflict_between : Parts → Snapshot → (class other : ℕ) → Bool
conflict_between p s class other = in_conflict p.travel (spots_of p s.plan) class other

-- how often a class stands in some pairs
abbrev pub times_in : (class : ℕ) → List (ℕ × ℕ) → ℕ
times_in class pairs = sum_by (λ pair. cond (pair.0 == class) 1 0 + cond (pair.1 == class) 1 0) pairs

-- in how many conflicting pairs of a student a class is
abbrev pub pairs_of : Parts → Snapshot → (class student : ℕ) → ℕ
pairs_of p s class student = times_in class (student_pairs p s student)
