use Rattle.std.proofs.Common.{◌≡◌, ℕ, ◌+◌, ◌<◌, ◌≤◌, None, length, sum, take, get_or}
use Rattle.tt_least.proofs.BoundLemmas.{IsCostAt, IsLeastAt}
use Rattle.tt_least.proofs.bound.write_costs.Given as goal

abbrev pub invariant-loop-part : goal.invariant-loop-part
invariant-loop-part l = record {
  wide : length l.costs ≡ l.table.size;
  long : length l.leasts ≡ l.table.size;
  costs : (k c : ℕ) → k < l.part → get_or l.level.chosen.items k None ≡ None → IsCostAt l.table l.groups l.level l.costs k c;
  each : (k c : ℕ) → k < l.part → IsLeastAt l.table l.groups l.level k c (get_or l.leasts k 0);
  sum : l.sum ≤ l.level.pairs + sum (take l.part l.leasts);
}
