use Rattle.std.proofs.Common.{◌≡◌, ◌≤◌, ◌+◌, length}
use Rattle.std.specs.List.{filter}
use Rattle.tt_state.specs.Kept.{snapshot_of}
use Rattle.tt_state.specs.Turned.{may_turn, turning}
use Rattle.tt_state.proofs.LockLemmas.{from_on}
use Rattle.tt_state.proofs.locks.turn_count.Given as goal

abbrev pub invariant-loop-class : goal.invariant-loop-class
invariant-loop-class l = record {
  count : l.count + length (filter (may_turn l.lock (snapshot_of l.present)) (from_on l.class (length (snapshot_of l.present).plan))) ≡ length (turning l.lock (snapshot_of l.present));
  few : l.count ≤ l.class;
}
