use Rattle.std.proofs.Common.{◌≡◌, ℕ, ◌-◌, ◌<◌, ◌≤◌, true, length, get_or}
use Rattle.tt_least.specs.Judged.{is_flagged}
use Rattle.tt_least.specs.Prices.{priced_at}
use Rattle.tt_least.proofs.bound.write_span.Given as goal

abbrev pub invariant-loop-class : goal.invariant-loop-class
invariant-loop-class l = record {
  long : length l.costs ≡ l.table.size;
  costs : (c : ℕ) → l.fn.span.first ≤ c → c < l.class → is_flagged l.table l.level.left.items c ≡ true → get_or l.costs (c - l.table.first) 0 ≤ priced_at l.table l.groups l.level c;
  before : (k : ℕ) → k < l.fn.span.first - l.table.first → get_or l.costs k 0 ≡ get_or l.fn.costs k 0;
  least : (c : ℕ) → l.fn.span.first ≤ c → c < l.class → is_flagged l.table l.level.left.items c ≡ true → l.least ≤ priced_at l.table l.groups l.level c;
}
