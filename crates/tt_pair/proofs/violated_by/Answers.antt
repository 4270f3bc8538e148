use Rattle.std.proofs.Common.{arith}
use Rattle.std.proofs.lemmas.Grind.{common_steps}
use Rattle.tt_bits.proofs.SpotLemmas.{count_by-placed}
use Rattle.tt_pair.specs.Listed.{is_violated_by}
use Rattle.tt_pair.proofs.violated_by.Goals as goal

pub returns-clause-count : goal.returns-clause-count
returns-clause-count c =
    let all = count_by-placed (is_violated_by c.args.kind c.args.travel.now c.args.spot.now c.args.listed) c.args.members.now in
    grind (arith, common_steps, all)
