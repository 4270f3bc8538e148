use Rattle.std.proofs.Common.{◌≤◌, length, take}
use Rattle.tt_least.specs.Results.{IsReady, IsWithin}
use Rattle.tt_least.proofs.exchange.exchange.Given as goal

-- so many pairs or fewer has the choice at the front of the buffer of the best
abbrev pub invariant-loop : goal.invariant-loop
invariant-loop l = record {
  ready : IsReady l.table l.scratch;
  fewer : l.fewest ≤ l.fn.most;
  found : IsWithin l.table l.left l.fewest (take (length l.table.subparts.now) l.scratch.best.items);
}
