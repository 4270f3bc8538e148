use Rattle.std.proofs.Common.{◌≡◌, ℕ, ◌≤◌, List}
use Rattle.std.specs.Prelude.{slice_index_or}
use Rattle.tt_least.specs.Results.{IsWithin}
use Rattle.tt_least.specs.Searches.{IsReadyToSearch}
use Rattle.tt_least.proofs.settle.seek_first.Given as goal

-- no choice that is sought has an earlier class
abbrev pub invariant-loop-class : goal.invariant-loop-class
invariant-loop-class l = record {
  ready : IsReadyToSearch l.table l.search;
  left : l.search.left.items ≡ l.fn.search.left.items;
  best : l.search.scratch.best.items ≡ l.fn.search.scratch.best.items;
  none : (choice : List ℕ) → IsWithin l.table l.fn.search.left.items l.limit choice → l.class ≤ slice_index_or choice l.part 0;
}
