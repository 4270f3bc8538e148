-- Theorem. A round on a student: other classes of a course.
use Rattle.std.specs.Prelude.{ℕ, Bool, false, not, ◌&&◌, nat_eq, nat_lt, List, [], ◌∷◌, ◌++◌, Option, Some, None, length, if◌then◌else◌}
use Rattle.std.specs.Cmp.Lexicographic.{pointwise}
use Rattle.std.specs.List.{filter}
use Rattle.std.specs.Option.{option_and_then}
use Rattle.rand_core.specs.Stream.{Stream}
use Rattle.tt_problem.specs.declared.parts.Span.{Span}
use Rattle.tt_problem.specs.declared.parts.Parts.{Parts}
use Rattle.tt_struct.specs.Enrolments.{has_parent}
use Rattle.tt_state.specs.Snapshots.{Snapshot, classes_in_order, list_in, with_list}
use Rattle.tt_choice.specs.Choices.{choices_at, configurations_of, span_places}
use Rattle.tt_improve.specs.Courses.{may_replace, own_of, rest_of}
use Rattle.tt_improve.specs.Targets.{seated_courses}
use Rattle.tt_improve.specs.declared.targets.Target.{Target}
use Rattle.tt_improve.specs.declared.targets.Target.TheVariants.{Class, Course}
use Rattle.tt_deluge.specs.Draws.{by_draw}

-- the target is a course of a student with more than one choice of its classes
abbrev pub is_choice : Parts → Target → Bool
is_choice p (Class class) = false
is_choice p (Course student course) = nat_lt 1 (length (choices_at p course))

-- the courses with a choice of each student who has classes, in order
unfoldable pub choices_in : Parts → Snapshot → List Target
choices_in p s = filter (is_choice p) (seated_courses p s)

-- a choice goes on with one class of each of these subparts, drawn among those that have no parent, or one in the rest or the
-- choice so far; nothing where there is none, and then no more is drawn
abbrev pub drawn_choice : Parts → (rest so_far : List ℕ) → List Span → Stream → Option (List ℕ) × Stream
drawn_choice p rest so_far [] random = (Some so_far, random)
drawn_choice p rest so_far (subpart ∷ subparts) random =
    by_draw (filter (has_parent p (rest ++ so_far)) (span_places subpart))
    (λ class. drawn_choice p rest (so_far ++ class ∷ []) subparts) random

-- the snapshot in which a choice replaces the student's own classes of a course, where it differs and may do so
abbrev pub replaced : Parts → Snapshot → (student : ℕ) → (rest own choice : List ℕ) → Option Snapshot
replaced p s student rest own choice =
    if not (pointwise nat_eq choice own) && may_replace p s student rest choice then Some (with_list s student (classes_in_order (rest ++ choice))) else None

-- the change of a course of a student: first a configuration is drawn, and then a choice of its subparts, if there is one
abbrev pub choice_drawn : Parts → Snapshot → Target → Stream → Option Snapshot × Stream
choice_drawn p s (Class class) random = (None, random)
choice_drawn p s (Course student course) random = by_draw (configurations_of p course) (λ subparts words.
    let rest = rest_of p course (list_in s student) in
    let own = own_of p course (list_in s student) in
    let choice = drawn_choice p rest [] subparts words in
    (option_and_then (replaced p s student rest own) choice.0, choice.1)) random
