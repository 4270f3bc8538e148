use Rattle.std.proofs.Common.{subst}
use Rattle.tt_problem.specs.Valid.{IsValid}
use Rattle.tt_improve.specs.Standing.{IsSeatedIn, IsTargetOf}
use Rattle.tt_improve.proofs.StudentLemmas.{within_courses}
use Rattle.tt_improve.proofs.touched.Touched.note.Goals as goal

pub note_student-requires-clause-course : goal.note_student-requires-clause-course
note_student-requires-clause-course c =
    let h = c.args.state.now in
    let seated : IsSeatedIn h.problem h.present c.in-Course.student c.in-Course.course = subst (IsTargetOf h.problem h.present) c.in-Course.is c.requires.target in
    within_courses h.problem h.present c.in-Course.student c.in-Course.course (subst IsValid c.problem.ensures c.validity.ensures) c.soundness.ensures.present seated
