use Rattle.std.specs.Prelude.{All}
use Rattle.tt_fields.specs.List.{IsAmong}
use Rattle.tt_solution.proofs.AssignmentLemmas.{assignments_push}
use Rattle.tt_solution.proofs.assignments.AssignmentTableNextTableAssignments.read_next.Goals as goal

pub returns-clause-valid : goal.returns-clause-valid
returns-clause-valid c =
    let students : All (IsAmong c.args.self.now.context.now.students) c.from_vec.result = rw c.from_vec.ensures c.in_ok-students.ensures.valid in
    (c.requires.valid.0, rw c.in_ok-push.ensures.items (assignments_push _ _ _ c.requires.valid.1 (record { class = c.in_ok-class.ensures.below; students = students })))
