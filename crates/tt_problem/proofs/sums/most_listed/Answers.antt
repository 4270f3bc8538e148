use Rattle.std.proofs.Common.{arith}
use Rattle.std.proofs.lemmas.Grind.{common_steps}
use Rattle.tt_problem.proofs.SumLemmas.{classes_in_table}
use Rattle.tt_problem.proofs.sums.most_listed.Goals as goal

pub loop-student-preserved : goal.loop-student-preserved
loop-student-preserved c =
    let most = classes_in_table c.args.parts.now c.args.subparts.now c.student-item.result c.requires.subparts in
    grind (arith, common_steps)
