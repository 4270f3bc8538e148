use Rattle.std.proofs.Common.{◌≡◌, ◌≤◌, ◌++◌, map, take}
use Rattle.std.specs.Prelude.{vec_capacity}
use Rattle.tt_score.specs.Rows.{pair_of}
use Rattle.tt_score.proofs.rows.add_pairs.Given as goal

abbrev pub invariant-loop-other : goal.invariant-loop-other
invariant-loop-other l = record {
  pairs : l.pairs.items ≡ l.fn.pairs.items ++ map (pair_of l.numbers) (take l.other-index l.touched);
  capacity : vec_capacity l.fn.pairs ≤ vec_capacity l.pairs;
}
