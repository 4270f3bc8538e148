use Rattle.std.proofs.Common.{◌≡◌, ◌*◌, ◌≤◌, take, sum_by}
use Rattle.tt_score.specs.Near.{near_at}
use Rattle.tt_score.proofs.joint.near_among.Given as goal

abbrev pub invariant-loop-there : goal.invariant-loop-there
invariant-loop-there l = record {
  count : l.count ≡ sum_by (near_at l.travel l.room) (take l.there-index l.near);
  few : l.count ≤ l.there-index * 4294967295;
}
