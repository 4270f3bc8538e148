use Rattle.std.proofs.Common.{◌≡◌, drop}
use Rattle.tt_state.specs.Snapshots.{list_in}
use Rattle.tt_explain.proofs.attending.classes_behind.Given as goal

abbrev pub invariant-loop : goal.invariant-loop
invariant-loop l = l.classes ≡ drop l.counter (list_in l.state.present l.student)
