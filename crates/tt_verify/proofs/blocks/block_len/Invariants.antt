use Rattle.std.proofs.Common.{◌≡◌, ◌+◌, drop}
use Rattle.tt_verify.proofs.CutLemmas.{joined}
use Rattle.tt_verify.proofs.blocks.block_len.Given as goal

abbrev pub invariant-loop-len : goal.invariant-loop-len
invariant-loop-len l = l.len + joined l.gap l.latest (drop l.len l.cell) ≡ joined l.gap l.initial.latest l.cell
