use Rattle.std.proofs.Common.{◌<◌, length, ap, arith}
use Rattle.tt_problem.specs.declared.parts.Parts.{Parts}
use Rattle.tt_state.specs.Snapshots.{list_in}
use Rattle.tt_improve.specs.Targets.{courses_with}
use Rattle.tt_improve.proofs.TargetLemmas.{add_student, start_students}
use Rattle.tt_improve.proofs.targets.add_courses.Goals as goal

pub loop-student-init : goal.loop-student-init
loop-student-init c = start_students c.args.state.now.problem c.args.state.now.present c.args.targets.now.items

pub loop-student-preserved : goal.loop-student-preserved
loop-student-preserved c =
    let h = c.args.state.now in
    let below : c.loop-student.student < length h.problem.students = omega (arith, c.student_count-student-end.ensures.count, ap (λ (q : Parts). length q.students) c.problem.ensures) in
    add_student (λ student. courses_with h.problem student (list_in h.present student)) _ _ _ _ _ below c.in_ok-add_courses_of.ensures c.loop-student.invariant
