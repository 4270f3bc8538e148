-- Proof. Whether the classes of a course in a list conflict with others of the list.
use Rattle.std.specs.Prelude.{ℕ, Bool, not, ◌&&◌, ◌==◌, List}
use Rattle.std.specs.List.{list_any}
use Rattle.tt_problem.specs.declared.parts.Parts.{Parts}
use Rattle.tt_plan.specs.Domain.{spots_of}
use Rattle.tt_roster.specs.Conflicts.{in_conflict}
use Rattle.tt_state.specs.Snapshots.{Snapshot}
use Rattle.tt_improve.specs.Courses.{is_of_course}

-- a class conflicts with another class of a list
abbrev pub meets_another : Parts → Snapshot → (list : List ℕ) → (class : ℕ) → Bool
meets_another p s list class = list_any (λ other. not (other == class) && in_conflict p.travel (spots_of p s.plan) class other) list

-- one of these classes is of the course, and conflicts with another class of a list
abbrev pub has_pair_with : Parts → Snapshot → (course : ℕ) → (list : List ℕ) → (classes : List ℕ) → Bool
has_pair_with p s course list classes = list_any (λ class. is_of_course p course class && meets_another p s list class) classes

-- a class of the course in a list conflicts with another class of the list
abbrev pub has_pair : Parts → Snapshot → (course : ℕ) → (list : List ℕ) → Bool
has_pair p s course list = has_pair_with p s course list list
