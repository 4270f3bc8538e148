use Rattle.std.proofs.Common.{◌≡◌, ◌+◌, ℕ, drop, length}
use Rattle.std.specs.Prelude.{count_by, nat_eq, slice_index_or}
use Rattle.tt_search.proofs.weights.ClassWeights.count_taken.Given as goal

abbrev pub invariant-loop-class : goal.invariant-loop-class
invariant-loop-class l = record {
  whole : length l.self.outs.items ≡ length l.fn.self.outs.items;
  counts : (class : ℕ) → slice_index_or l.self.outs.items class 0 + count_by (nat_eq class) (drop l.class-index l.state.taken) ≡ slice_index_or l.fn.self.outs.items class 0 + count_by (nat_eq class) l.state.taken;
}
