use Rattle.std.proofs.Common.{ℕ}
use Rattle.tt_least.specs.Results.{IsNarrowed}
use Rattle.tt_least.proofs.narrow.drop_orphans.Given as goal

abbrev pub invariant-loop-class : goal.invariant-loop-class
invariant-loop-class l = (limit : ℕ) → IsNarrowed l.table limit l.fn.level l.level
