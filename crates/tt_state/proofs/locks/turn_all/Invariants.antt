use Rattle.std.proofs.Common.{◌≡◌, ◌≤◌, length}
use Rattle.std.specs.List.{filter}
use Rattle.tt_state.specs.History.{noted_by}
use Rattle.tt_state.specs.Kept.{snapshot_of}
use Rattle.tt_state.specs.Snapshots.{with_locks}
use Rattle.tt_state.specs.Past.{LeadsTo}
use Rattle.tt_state.specs.Turned.{may_turn, lock_entry, turning}
use Rattle.tt_state.proofs.LockLemmas.{from_on, locks_at}
use Rattle.tt_state.proofs.locks.turn_all.Given as goal

abbrev pub invariant-loop-class : goal.invariant-loop-class
invariant-loop-class l = record {
  score : l.present.score ≡ l.fn.present.score;
  leads : LeadsTo l.problem (snapshot_of l.fn.present) l.fn.past.list (snapshot_of l.present) l.past.list;
  now : snapshot_of l.present ≡ with_locks (snapshot_of l.fn.present) (locks_at l.lock (snapshot_of l.fn.present) l.class);
  spare : length (filter (may_turn l.lock (snapshot_of l.fn.present)) (from_on l.class (length (snapshot_of l.fn.present).plan))) ≤ l.past.spare;
  entries : noted_by (lock_entry l.lock) (filter (may_turn l.lock (snapshot_of l.fn.present)) (from_on l.class (length (snapshot_of l.fn.present).plan))) l.past.list
      ≡ noted_by (lock_entry l.lock) (turning l.lock (snapshot_of l.fn.present)) l.fn.past.list;
}
