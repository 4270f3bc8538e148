use Rattle.std.proofs.Common.{◌≡◌, ◌≤◌, ◌*◌, ◌^◌, take}
use Rattle.std.specs.List.{sum_by}
use Rattle.tt_state.specs.Tolls.{toll_of}
use Rattle.tt_state.proofs.state.State.tolls.Given as goal

abbrev pub invariant-loop-other : goal.invariant-loop-other
invariant-loop-other l = record {
  tolls : l.tolls ≡ sum_by (toll_of l.self.present l.class l.value) (take l.other-index l.self.taken);
  small : l.tolls ≤ l.other-index * 2 ^ 64;
}
