use Rattle.tt_least.specs.Results.{IsWithin}
use Rattle.tt_least.specs.Searches.{IsReadyToSearch, found_in}
use Rattle.tt_least.proofs.LeastLemmas.{AreSettled}
use Rattle.tt_least.proofs.settle.settle_all.Given as goal

-- the subparts before this one are settled
abbrev pub invariant-loop-part : goal.invariant-loop-part
invariant-loop-part l = record {
  ready : IsReadyToSearch l.table l.search;
  found : IsWithin l.table l.search.left.items l.limit (found_in l.table l.search);
  settled : AreSettled l.table l.part l.limit l.fn.search.left.items l.search.left.items (found_in l.table l.search);
}
