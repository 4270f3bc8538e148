use Rattle.std.proofs.Common.{subst}
use Rattle.tt_problem.specs.Valid.{IsValid}
use Rattle.tt_improve.proofs.StudentLemmas.{within_courses}
use Rattle.tt_deluge.proofs.students.student_round.Goals as goal

pub draw_config-config-requires : goal.draw_config-config-requires
draw_config-config-requires c =
    let h = c.args.state.now in
    let valid = subst IsValid c.problem.ensures c.validity.ensures in
    rw c.problem-2.ensures (within_courses h.problem h.present c.args.choice.student c.args.choice.course valid c.soundness.ensures.present c.requires.target)
