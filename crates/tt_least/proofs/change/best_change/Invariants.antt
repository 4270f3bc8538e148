use Rattle.std.proofs.Common.{◌<◌, ◌≤◌, length, IfSome}
use Rattle.tt_least.specs.Limits.{most_price}
use Rattle.tt_least.proofs.change.best_change.Given as goal

abbrev pub invariant-loop-name : goal.invariant-loop-name
invariant-loop-name l = record {
  place : IfSome l.best (λ change. change.group < length l.groups.prices.items);
  few : IfSome l.best (λ change. change.price ≤ most_price);
}
