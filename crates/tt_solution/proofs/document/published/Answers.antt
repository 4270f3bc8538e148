use Rattle.std.proofs.Common.{◌∙◌, List, Ok, map, ap, sym}
use Rattle.tt_solution.specs.Read.{assignment_read, assignments_read}
use Rattle.tt_solution.specs.Tables.{timetable_with}
use Rattle.tt_solution.specs.declared.assignments as code
use Rattle.tt_solution.proofs.OncePassed.{linked_timetable}
use Rattle.tt_solution.proofs.document.published.Goals as goal

pub returns-in_ok-timetable-in-Ok-clause-reads : goal.returns-in_ok-timetable-in-Ok-clause-reads
returns-in_ok-timetable-in-Ok-clause-reads c =
    let made = c.in_ok-timetable-in-Ok.ensures.reads ∙ ap (λ (l : List code.Assignment.Assignment). timetable_with c.args.problem.now (map assignment_read l)) c.as_slice.ensures.value in
    linked_timetable _ _ (assignments_read c.in-Ok.listed) c.in-Ok.ensures.reads ∙ ap Ok (sym made)
