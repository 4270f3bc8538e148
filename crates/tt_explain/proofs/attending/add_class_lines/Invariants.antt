use Rattle.std.proofs.Common.{◌≡◌, ◌++◌}
use Rattle.std.specs.List.{flat_map}
use Rattle.tt_state.specs.Snapshots.{list_in}
use Rattle.tt_explain.specs.Student.{class_line}
use Rattle.tt_explain.proofs.attending.add_class_lines.Given as goal

abbrev pub invariant-loop-class : goal.invariant-loop-class
invariant-loop-class l =
    l.out ++ flat_map (class_line l.state.problem) l.class-iterator ≡ l.fn.out ++ flat_map (class_line l.state.problem) (list_in l.state.present l.student)
