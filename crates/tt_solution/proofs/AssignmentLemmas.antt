-- Listed classes.
use Rattle.std.proofs.Common.{◌≡◌, ◌<◌, List, [], ◌∷◌, ◌++◌, length, map, Some}
use Rattle.std.specs.Prelude.{All}
use Rattle.std.proofs.lemmas.List.{length-map}
use Rattle.std.proofs.lemmas.List.Elements.{All-push, All-nil, All-cons, All-head, All-tail, All-weaker}
use Rattle.tt_problem.specs.declared.parts.ClassPart.{ClassPart}
use Rattle.tt_problem.specs.declared.parts.StudentPart.{StudentPart}
use Rattle.tt_problem.specs.declared.parts.Parts.{Parts}
use Rattle.tt_problem.specs.Valid.{class_ids, student_ids}
use Rattle.tt_fields.specs.List.{known_of, IsAmong}
use Rattle.tt_fields.proofs.KnownLemmas.{below}
use Rattle.tt_solution.specs.declared.assignments as code
use Rattle.tt_solution.specs.Read.{assignment_read, IsAssignment, AreAssignments, IsAssignmentOf, AreAssignmentsOf}

-- one more after those that were read
pub assignments_push : (c : code.AssignmentContext.AssignmentContext) (assignments : List code.Assignment.Assignment) (e : code.Assignment.Assignment) → AreAssignments c assignments → IsAssignment c e → AreAssignments c (assignments ++ e ∷ [])
assignments_push c assignments e so_far good = record { each = All-push (IsAssignment c) assignments e so_far.each good }

module _ (p : Parts) (c : code.AssignmentContext.AssignmentContext) (classes : known_of c.classes ≡ Some (class_ids p.classes)) (students : known_of c.students ≡ Some (student_ids p.students)) where
  one_of_problem : (e : code.Assignment.Assignment) → IsAssignment c e → IsAssignmentOf p (assignment_read e)
  one_of_problem e good = record {
    class = below c.classes (class_ids p.classes) (length p.classes) classes (length-map p.classes (λ (x : ClassPart). x.id)) e.class good.class;
    students = All-weaker (IsAmong c.students) (λ student. student < length p.students) (below c.students (student_ids p.students) (length p.students) students (length-map p.students (λ (x : StudentPart). x.id))) e.students good.students;
  }

  each_of_problem : (assignments : List code.Assignment.Assignment) → All (IsAssignment c) assignments → All (IsAssignmentOf p) (map assignment_read assignments)
  each_of_problem [] good = All-nil (IsAssignmentOf p)
  each_of_problem (e ∷ assignments) good =
      All-cons (IsAssignmentOf p) (assignment_read e) (map assignment_read assignments) (one_of_problem e (All-head (IsAssignment c) e assignments good)) (each_of_problem assignments (All-tail (IsAssignment c) e assignments good))

  -- the listed classes are the problem's
  pub assignments_of_problem : (assignments : List code.Assignment.Assignment) → AreAssignments c assignments → AreAssignmentsOf p (map assignment_read assignments)
  assignments_of_problem assignments good = record { each = each_of_problem assignments good.each }
