use Rattle.std.proofs.Common.{◌-◌, ◌<◌, arith, refl}
use Rattle.std.proofs.lemmas.Grind.{common_steps}
use Rattle.tt_least.proofs.NodeLemmas.{node-start}
use Rattle.tt_least.proofs.level.start.Goals as goal

pub returns-clause-node : goal.returns-clause-node
returns-clause-node c =
    node-start c.args.table.now _ c.requires.table (λ k. grind (arith, common_steps))
    (λ d of_table.
    let small : d - c.args.table.now.first < c.args.table.now.size = omega (arith, of_table.0, of_table.1, c.requires.table.sized.few) in
    grind (arith, common_steps))
    (grind (arith, common_steps)) refl
