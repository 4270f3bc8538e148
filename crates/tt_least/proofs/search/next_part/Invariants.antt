use Rattle.std.proofs.Common.{◌≡◌, ◌≢◌, ℕ, ◌<◌, None, length}
use Rattle.std.specs.Prelude.{IfSome, slice_index_or}
use Rattle.tt_least.proofs.search.next_part.Given as goal

abbrev pub invariant-loop-part : goal.invariant-loop-part
invariant-loop-part l = record {
  some : IfSome l.best (λ k. k < length l.table.subparts.now);
  come : IfSome l.best (λ k. slice_index_or l.level.chosen.items k None ≡ None);
  none : l.best ≡ None → (k : ℕ) → k < l.part → slice_index_or l.level.chosen.items k None ≢ None;
}
