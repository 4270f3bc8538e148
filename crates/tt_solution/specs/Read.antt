-- Proof. What the code has read so far of a published file.
use Rattle.std.specs.Prelude.{◌<◌, ◌≤◌, List, All, length, map}
use Rattle.tt_problem.specs.declared.parts.Parts.{Parts}
use Rattle.tt_fields.specs.List.{known_of, IsFew, IsAmong}
use Rattle.tt_solution.specs.declared.assignments as code
use Rattle.tt_solution.specs.Tables.{AssignmentContext, Assignment, Assignments}

-- what the code reads with
abbrev pub context_of : code.AssignmentContext.AssignmentContext → AssignmentContext
context_of c = record { nr_days = c.nr_days; nr_weeks = c.nr_weeks; classes = known_of c.classes; students = known_of c.students }

-- the term is one that a problem may have, and there are fewer ids than a place can number
pub record IsAssignmentContext (c : code.AssignmentContext.AssignmentContext) : Type 0 where
  pub days : c.nr_days ≤ 7
  pub weeks : c.nr_weeks ≤ 128
  pub classes : IsFew c.classes
  pub students : IsFew c.students

-- a listed class that the code has read
abbrev pub assignment_read : code.Assignment.Assignment → Assignment
assignment_read e = record { class = e.class; meeting = e.meeting; students = e.students }

-- all that the code has read
abbrev pub assignments_read : code.Assignments.Assignments → Assignments
assignments_read l = record { ids = l.ids.keys; assignments = map assignment_read l.assignments.items }

-- the class and its students are among those that are known, where they are looked up
pub record IsAssignment (c : code.AssignmentContext.AssignmentContext) (e : code.Assignment.Assignment) : Type 0 where
  pub class : IsAmong c.classes e.class
  pub students : All (IsAmong c.students) e.students

-- the same of each of some
pub record AreAssignments (c : code.AssignmentContext.AssignmentContext) (assignments : List code.Assignment.Assignment) : Type 0 where
  pub each : All (IsAssignment c) assignments

-- the class and its students are the problem's
pub record IsAssignmentOf (p : Parts) (e : Assignment) : Type 0 where
  pub class : e.class < length p.classes
  pub students : All (λ student. student < length p.students) e.students

-- the same of each of some
pub record AreAssignmentsOf (p : Parts) (assignments : List Assignment) : Type 0 where
  pub each : All (IsAssignmentOf p) assignments
