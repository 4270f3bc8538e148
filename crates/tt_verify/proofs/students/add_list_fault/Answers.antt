use Rattle.std.proofs.Common.{◌<◌, [], length, arith}
use Rattle.tt_roster.specs.Lists.{list_of}
use Rattle.tt_verify.proofs.PlanLemmas.{below_end}
use Rattle.tt_verify.proofs.students.add_list_fault.Goals as goal

pub is_enrolment-requires-clause-classes : goal.is_enrolment-requires-clause-classes
is_enrolment-requires-clause-classes c =
    let t = c.args.published.now in
    let lists = c.requires.belongs.lists in
    let within : c.args.student < length t.lists = omega (arith, lists, c.requires.student) in
    rw c.classes_of.ensures (below_end 0 (length c.args.problem.now.classes) (list_of t.lists c.args.student) (c.requires.belongs.each c.args.student [] within))
