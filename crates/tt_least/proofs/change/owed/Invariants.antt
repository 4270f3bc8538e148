use Rattle.std.proofs.Common.{◌≡◌, ◌*◌, ◌≤◌, take}
use Rattle.tt_least.specs.Prices.{owed_of}
use Rattle.tt_least.proofs.change.owed.Given as goal

abbrev pub invariant-loop-price : goal.invariant-loop-price
invariant-loop-price l = record {
  sum : l.owed ≡ owed_of (take l.price-index l.prices);
  few : l.owed ≤ l.price-index * 2147450880;
}
