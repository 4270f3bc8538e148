use Rattle.std.proofs.Common.{◌≡◌, ◌≢◌, ℕ, ◌-◌, ◌<◌, ◌≤◌, false, length}
use Rattle.std.specs.Prelude.{slice_index_or}
use Rattle.tt_least.proofs.settle.leave_alone.Given as goal

abbrev pub invariant-loop-place : goal.invariant-loop-place
invariant-loop-place l = record {
  long : length l.left ≡ length l.initial.left;
  passed : (k : ℕ) → l.fn.span.first - l.fn.first ≤ k → k < l.place → k ≢ l.fn.class - l.fn.first → slice_index_or l.left k false ≡ false;
  one : slice_index_or l.left (l.fn.class - l.fn.first) false ≡ slice_index_or l.initial.left (l.fn.class - l.fn.first) false;
  before : (k : ℕ) → k < l.fn.span.first - l.fn.first → slice_index_or l.left k false ≡ slice_index_or l.initial.left k false;
  behind : (k : ℕ) → l.place ≤ k → slice_index_or l.left k false ≡ slice_index_or l.initial.left k false;
}
