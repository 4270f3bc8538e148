-- Proof. A round on a target of each kind.
use Rattle.std.specs.Prelude.{ℕ, Option}
use Rattle.std.specs.Option.{option_and_then}
use Rattle.tt_problem.specs.declared.parts.Parts.{Parts}
use Rattle.tt_state.specs.Snapshots.{Snapshot, list_in}
use Rattle.tt_improve.specs.Classes.{at_lower, least_value}
use Rattle.tt_improve.specs.Courses.{own_of, replaced_by, rest_of}

-- the snapshot after a round on a class, none where it changes nothing
unfoldable pub changed_class : Parts → Snapshot → (class : ℕ) → Option Snapshot
changed_class p s class = option_and_then (at_lower p s class) (least_value p s class)

-- the snapshot after a round on a course of a student, none where it changes nothing
unfoldable pub changed_student : Parts → Snapshot → (student course : ℕ) → Option Snapshot
changed_student p s student course =
    replaced_by p s student course (rest_of p course (list_in s student)) (own_of p course (list_in s student))
