use Rattle.std.proofs.Common.{arith}
use Rattle.std.proofs.lemmas.Grind.{common_steps}
use Rattle.tt_problem.proofs.SumLemmas.{few_in_table, links_in_table}
use Rattle.tt_problem.proofs.sums.links_of.Goals as goal

pub links_of_rule-requires-clause-few : goal.links_of_rule-requires-clause-few
links_of_rule-requires-clause-few c = rw c.requires.cells (few_in_table c.args.parts.now.classes)

pub loop-rule-preserved : goal.loop-rule-preserved
loop-rule-preserved c =
    let p = c.args.parts.now in
    let rule = c.rule-item.result in
    let links = links_in_table p c.args.cells.now rule c.requires.cells in
    grind (arith, common_steps)
