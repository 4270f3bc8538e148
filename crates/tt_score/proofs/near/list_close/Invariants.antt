use Rattle.std.proofs.Common.{◌≡◌, ◌≤◌, length, take}
use Rattle.tt_score.specs.Near.{IsCloseOf}
use Rattle.tt_score.proofs.near.list_close.Given as goal

abbrev pub invariant-loop-pair : goal.invariant-loop-pair
invariant-loop-pair l = record {
  long : length l.close ≡ length l.fn.close;
  few : l.count ≤ l.pair-index;
  close : IsCloseOf l.slots (take l.pair-index l.row) l.time l.most (take l.count l.close);
}
