use Rattle.std.proofs.Common.{◌≡◌, ◌*◌, ◌≤◌, take, sum_by}
use Rattle.tt_score.specs.Rows.{pair_at}
use Rattle.tt_score.proofs.joint.sum_pairs.Given as goal

abbrev pub invariant-loop-pair : goal.invariant-loop-pair
invariant-loop-pair l = record {
  count : l.count ≡ sum_by (pair_at l.travel l.spots l.spot) (take l.pair-index l.list);
  few : l.count ≤ l.pair-index * 4294967295;
}
