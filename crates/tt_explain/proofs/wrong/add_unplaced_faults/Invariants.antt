use Rattle.std.proofs.Common.{◌≡◌, ◌++◌}
use Rattle.std.specs.List.{flat_map, range_with_len}
use Rattle.tt_explain.specs.Violations.{unplaced_fault}
use Rattle.tt_explain.proofs.wrong.add_unplaced_faults.Given as goal

abbrev pub invariant-loop-class : goal.invariant-loop-class
invariant-loop-class l = l.found.items ≡ l.fn.found.items ++ flat_map (unplaced_fault l.state.present) (range_with_len 0 l.class)
