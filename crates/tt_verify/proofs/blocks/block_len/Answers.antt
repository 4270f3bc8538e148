use Rattle.std.proofs.Common.{arith}
use Rattle.tt_verify.proofs.CutLemmas.{block_cut, late_not_joined, none_joined}
use Rattle.tt_verify.proofs.blocks.block_len.Goals as goal

pub returns-then-saturating_sub-gap-clause-first : goal.returns-then-saturating_sub-gap-clause-first
returns-then-saturating_sub-gap-clause-first c =
    let none = late_not_joined c.args.gap c.loop-len.latest c.loop-len.len c.args.cell.now c.index-cell-len.result (omega arith) c.index-cell-len.is (omega arith) in
    block_cut _ _ c.end-latest.result _ _ c.requires c.end-latest.ensures (omega arith)

pub returns-clause-first : goal.returns-clause-first
returns-clause-first c =
    let none = none_joined c.args.gap c.loop-len.latest c.loop-len.len c.args.cell.now (omega arith) in
    block_cut _ _ c.end-latest.result _ _ c.requires c.end-latest.ensures (omega arith)
