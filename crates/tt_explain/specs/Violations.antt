-- Theorem. What `violations` writes.
use Rattle.std.specs.Prelude.{ℕ, ◌+◌, not, ◌&&◌, is_none, List, [], ◌∷◌, ◌++◌, length, if◌then◌else◌}
use Rattle.std.specs.List.{flat_map, range_with_len}
use Rattle.tt_problem.specs.declared.parts.Parts.{Parts}
use Rattle.tt_plan.specs.Domain.{spots_of}
use Rattle.tt_score.specs.declared.totals.Totals.{Totals}
use Rattle.tt_state.specs.Snapshots.{Snapshot, list_in, value_in}
use Rattle.tt_state.specs.Sound.{lacks_classes}
use Rattle.tt_struct.specs.Enrolments.{is_enrolment}
use Rattle.tt_verify.specs.declared.violation.Violation.{Violation}
use Rattle.tt_verify.specs.declared.violation.Violation.TheVariants as what
use Rattle.tt_verify.specs.Lines.{number_line, violation_lines}
use Rattle.tt_verify.specs.Violations.{hard_violations}

-- a class that has no value
unfoldable pub unplaced_fault : Snapshot → (class : ℕ) → List Violation
unplaced_fault s class = if is_none (value_in s class) then what.Missing class ∷ [] else []

-- a student whose list is no valid enrolment; the empty list of one who has a course is none
unfoldable pub enrolment_fault : Parts → Snapshot → (student : ℕ) → List Violation
enrolment_fault p s student = if is_enrolment p student (list_in s student) && not (lacks_classes p s student) then [] else what.Invalid student ∷ []

-- all that is wrong in a snapshot: with its classes, with the lists of its students, and what is counted as hard, with the closures
-- that aren't lifted
unfoldable pub present_violations : Parts → Snapshot → List Violation
present_violations p s =
    flat_map (unplaced_fault s) (range_with_len 0 (length p.classes))
    ++ flat_map (enrolment_fault p s) (range_with_len 0 (length p.students))
    ++ hard_violations p s.closures (spots_of p s.plan)

-- how much the totals count of what is wrong
abbrev pub fault_count : Totals → ℕ
fault_count t = t.unplaced + t.unsectioned + t.hard

-- a line for each of them, and the line on how many they are
unfoldable pub violations_lines : Parts → Snapshot → List ℕ
violations_lines p s = violation_lines p (present_violations p s) ++ number_line (length (present_violations p s))
