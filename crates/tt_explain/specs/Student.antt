-- Theorem. What `student` writes of a student.
use Rattle.std.specs.Prelude.{◌≡◌, ℕ, List, ◌++◌, codes, length, sum_by}
use Rattle.std.specs.List.{flat_map, range_with_len}
use Rattle.tt_problem.specs.declared.parts.Parts.{Parts}
use Rattle.tt_problem.specs.Places.{class_id}
use Rattle.tt_plan.specs.Domain.{spots_of}
use Rattle.tt_roster.specs.Conflicts.{conflicts_in, in_conflict}
use Rattle.tt_score.specs.declared.totals.Totals.{Totals}
use Rattle.tt_state.specs.Snapshots.{Snapshot, list_in}
use Rattle.tt_text.specs.Fields.{field}
use Rattle.tt_verify.specs.Pairs.{related_pairs}

-- the pairs of a student's classes that nobody can attend both, each class with each later one
unfoldable pub student_pairs : Parts → Snapshot → (student : ℕ) → List (ℕ × ℕ)
student_pairs p s student = related_pairs (in_conflict p.travel (spots_of p s.plan)) (list_in s student)

-- `class D`
unfoldable pub class_line : Parts → (class : ℕ) → List ℕ
class_line p class = field (codes "class ") (class_id p class) ++ codes "\n"

-- `pair C D`
unfoldable pub pair_line : Parts → ℕ × ℕ → List ℕ
pair_line p pair = field (codes "pair ") (class_id p pair.0) ++ field (codes " ") (class_id p pair.1) ++ codes "\n"

-- a line for each class of a student, and for each pair of them that nobody can attend both, in order
unfoldable pub student_lines : Parts → Snapshot → (student : ℕ) → List ℕ
student_lines p s student =
    flat_map (class_line p) (list_in s student) ++ flat_map (pair_line p) (student_pairs p s student)

-- ---- the sums

-- A student's pairs are the conflicts in the student's list, and those of all students are the student conflicts of these totals.
pub record PairsAreCounted (p : Parts) (s : Snapshot) (student : ℕ) (totals : Totals) : Type 0 where
  pub own : length (student_pairs p s student) ≡ conflicts_in p.travel (spots_of p s.plan) (list_in s student)
  pub all : sum_by (λ k. length (student_pairs p s k)) (range_with_len 0 (length p.students)) ≡ totals.student
