use Rattle.std.proofs.Common.{◌≡◌, ◌≤◌, count_by}
use Rattle.std.specs.List.{list_any, range_with_len}
use Rattle.tt_base.specs.Sets.{has}
use Rattle.tt_bits.specs.Sets.{week_set}
use Rattle.tt_verify.proofs.amounts.weeks_over.Given as goal

abbrev pub invariant-loop-week : goal.invariant-loop-week
invariant-loop-week l = record {
  count : l.weeks ≡ count_by (λ week. list_any (λ x. has (week_set x.time.weeks) week) l.spots) (range_with_len 0 l.week);
  few : l.weeks ≤ l.week;
}
