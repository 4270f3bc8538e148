-- Theorem. What `meets` writes of a class.
use Rattle.std.specs.Prelude.{ℕ, ◌&&◌, List, ◌++◌, codes, count_by, filter, length, nat_eq, nat_lt, sum_by, if◌then◌else◌}
use Rattle.std.specs.List.{flat_map, range_with_len}
use Rattle.tt_base.specs.Lists.{is_listed}
use Rattle.tt_problem.specs.declared.parts.Parts.{Parts}
use Rattle.tt_problem.specs.Places.{class_id}
use Rattle.tt_plan.specs.Domain.{spots_of}
use Rattle.tt_roster.specs.Conflicts.{in_conflict}
use Rattle.tt_state.specs.Snapshots.{Snapshot}
use Rattle.tt_text.specs.Fields.{field}

-- how many students have a class and another one; none for the class itself
abbrev pub students_of_both : List (List ℕ) → (class other : ℕ) → ℕ
students_of_both lists class other = if nat_eq other class then 0 else count_by (λ list. is_listed class list && is_listed other list) lists

-- how many have a class and another one that nobody can attend beside it
unfoldable pub met_students : Parts → Snapshot → (class other : ℕ) → ℕ
met_students p s class other = if in_conflict p.travel (spots_of p s.plan) class other then students_of_both s.lists class other else 0

-- the classes with such students, in the problem's order
unfoldable pub met_classes : Parts → Snapshot → (class : ℕ) → List ℕ
met_classes p s class =
    filter (λ other. nat_lt 0 (met_students p s class other)) (range_with_len 0 (length p.classes))

-- how many students these classes have, one after another
unfoldable pub all_met : Parts → Snapshot → (class : ℕ) → ℕ
all_met p s class = sum_by (met_students p s class) (met_classes p s class)

-- `meets D N`
unfoldable pub meeting_line : Parts → (other students : ℕ) → List ℕ
meeting_line p other students = field (codes "meets ") (class_id p other) ++ field (codes " ") students ++ codes "\n"

-- a line for each class with such students
unfoldable pub meets_lines : Parts → Snapshot → (class : ℕ) → List ℕ
meets_lines p s class = flat_map (λ d. meeting_line p d (met_students p s class d)) (met_classes p s class)
