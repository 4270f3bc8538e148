use Rattle.std.proofs.Common.{◌≡◌, drop}
use Rattle.std.specs.List.{find}
use Rattle.tt_state.specs.Snapshots.{is_locked_in}
use Rattle.tt_state.proofs.state.State.first_locked.Given as goal

abbrev pub invariant-loop-class : goal.invariant-loop-class
invariant-loop-class l = find (is_locked_in l.self.present) (drop l.class-index l.self.taken) ≡ find (is_locked_in l.self.present) l.self.taken
