use Rattle.std.proofs.Common.{◌≡◌, ◌-◌, ℕ, ◌≤◌, List, true}
use Rattle.tt_least.specs.Judged.{is_allowed, pairs_in}
use Rattle.tt_least.specs.Nodes.{IsLeft}
use Rattle.tt_least.specs.Results.{IsWithin}
use Rattle.tt_least.specs.Searches.{IsReadyToSearch, found_in}
use Rattle.tt_least.proofs.settle.fewest.Given as goal

-- one is found with so many pairs, and no choice of what is left has fewer than the lower number
abbrev pub invariant-loop-low : goal.invariant-loop-low
invariant-loop-low l = record {
  ready : IsReadyToSearch l.table l.search;
  left : l.search.left.items ≡ l.fn.search.left.items;
  few : l.high ≤ l.fn.most;
  step : 1 ≤ l.step;
  found : IsWithin l.table l.fn.search.left.items l.high (found_in l.table l.search);
  fewest : (choice : List ℕ) → IsLeft l.table l.fn.search.left.items choice → is_allowed l.table choice ≡ true → l.low ≤ pairs_in l.table choice;
}

abbrev pub decreases-loop-low : goal.decreases-loop-low
decreases-loop-low l = l.high - l.low
