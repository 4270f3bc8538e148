use Rattle.std.proofs.Common.{add-one, arith}
use Rattle.std.proofs.lemmas.List.{take_rest}
use Rattle.tt_pair.proofs.PairGroup.violated_with.Goals as goal

pub returns-clause-count : goal.returns-clause-count
returns-clause-count c =
    let held = c.as_slice-held.ensures.value in
    let before = rw held at c.violated_by.ensures.count in
    let after = rw (take_rest, add-one, held) at c.violated_by-2.ensures.count in
    omega (arith, before, after)
