-- Theorem. What a round may look at: a placed class that isn't locked, or a course of a student who has classes.
use Rattle.std.specs.Prelude.{ℕ, List, [], ◌∷◌, ◌++◌, length, map}
use Rattle.std.specs.List.{filter, flat_map, range_with_len}
use Rattle.tt_problem.specs.declared.parts.Parts.{Parts}
use Rattle.tt_state.specs.Snapshots.{Snapshot, list_in, may_lock}
use Rattle.tt_choice.specs.Situations.{courses_of}
use Rattle.tt_improve.specs.declared.targets.Target.{Target}
use Rattle.tt_improve.specs.declared.targets.Target.TheVariants.{Class, Course}

-- the placed classes that aren't locked, in the problem's order
unfoldable pub movable_classes : Parts → Snapshot → List ℕ
movable_classes p s = filter (may_lock s) (range_with_len 0 (length p.classes))

-- the courses of a student who has these classes, and none where the student has none
abbrev pub courses_with : Parts → (student : ℕ) → (list : List ℕ) → List Target
courses_with p student [] = []
courses_with p student (class ∷ list) = map (Course student) (courses_of p student)

-- the courses of each student who has classes, in order
unfoldable pub seated_courses : Parts → Snapshot → List Target
seated_courses p s = flat_map (λ student. courses_with p student (list_in s student)) (range_with_len 0 (length p.students))

-- the targets of a snapshot: the placed classes that aren't locked, and then the courses of each student who has classes
abbrev pub targets_of : Parts → Snapshot → List Target
targets_of p s = map (λ class. Class class) (movable_classes p s) ++ seated_courses p s
