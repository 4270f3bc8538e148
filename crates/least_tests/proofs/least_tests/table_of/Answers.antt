-- The table is well formed by its numbers, and conflicts are asked of places below four.
use Rattle.std.proofs.Common.{◌≡◌, ◌-◌, arith}
use Rattle.least_tests.proofs.least_tests.table_of.Goals as goal

pub returns-clause-table : goal.returns-clause-table
returns-clause-table c = record {
  sized = record {
    few = omega arith;
    small = omega arith;
    below = omega arith;
    weights = c.told-weights;
    parents = c.told-parents;
    conflicts = c.told-conflicts;
  };
  both_ways = record {
    both_ways = λ j k a b. let y : j - 0 ≡ j = omega arith in let z : k - 0 ≡ k = omega arith in rw (y, z) (c.requires.both_ways j k a.1 b.1);
    itself = λ k a. let z : k - 0 ≡ k = omega arith in rw z (c.requires.itself k a.1);
  };
  apart = c.requires.apart;
  few = omega arith;
}
