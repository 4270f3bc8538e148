use Rattle.std.proofs.Common.{◌≡◌, ◌+◌, ◌-◌, ◌^◌, ◌<◌, min, drop}
use Rattle.tt_least.specs.Judged.{pairs_in}
use Rattle.tt_least.proofs.leaf.pairs_of.Given as goal

-- what is counted and what is still to be counted are what the choice has, or less where a number can't be so large
abbrev pub invariant-loop-place : goal.invariant-loop-place
invariant-loop-place l = record {
  fits : l.pairs < 2 ^ 64;
  all : min (l.pairs + pairs_in l.table (drop l.place l.choice)) (2 ^ 64 - 1) ≡ min (pairs_in l.table l.choice) (2 ^ 64 - 1);
}
