use Rattle.std.proofs.Common.{ℕ, ◌+◌, ◌<◌, ◌≤◌, false, cond}
use Rattle.std.specs.Prelude.{slice_index_or}
use Rattle.tt_least.proofs.choose.weigh.Given as goal

abbrev pub invariant-loop-place : goal.invariant-loop-place
invariant-loop-place l = (k : ℕ) → k < l.place → slice_index_or l.weights k 0 ≤ cond (slice_index_or l.to_come k false) (slice_index_or l.before k 0 + cond (slice_index_or l.row k false) 1 0) 0
