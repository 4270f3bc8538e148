use Rattle.std.proofs.Common.{◌≡◌, ◌≤◌, ◌+◌, ◌++◌, drop, length}
use Rattle.std.specs.List.{flat_map}
use Rattle.tt_state.specs.Snapshots.{list_in}
use Rattle.tt_verify.specs.Pairs.{related_pairs}
use Rattle.tt_explain.specs.Student.{student_pairs, pair_line}
use Rattle.tt_explain.specs.Pairs.{conflict_between}
use Rattle.tt_explain.proofs.attending.add_pair_lines.Given as goal

abbrev pub invariant-loop-class : goal.invariant-loop-class
invariant-loop-class l = record {
  lines : l.out ++ flat_map (pair_line l.state.problem) (related_pairs (conflict_between l.state.problem l.state.present) l.class-iterator)
      ≡ l.fn.out ++ flat_map (pair_line l.state.problem) (student_pairs l.state.problem l.state.present l.student);
  left : l.class-iterator ≡ drop l.place (list_in l.state.present l.student);
  few : l.place + length l.class-iterator ≤ length l.state.problem.classes;
}
