use Rattle.std.proofs.lemmas.Result.{IfOk-weaker}
use Rattle.std.proofs.Common.{◌∙◌, ap, Some}
use Rattle.tt_solution.proofs.AssignmentLemmas.{assignments_of_problem}
use Rattle.tt_solution.proofs.assignments.second_pass.Goals as goal

pub returns-clause-valid : goal.returns-clause-valid
returns-clause-valid c = IfOk-weaker c.read_assignments.result _ _ (λ l good. assignments_of_problem c.args.problem.now _ (c.among.ensures.ids ∙ ap Some c.class_ids.ensures) (c.among-2.ensures.ids ∙ ap Some c.student_ids.ensures) l.assignments.items good) c.read_assignments.ensures.valid
