use Rattle.std.proofs.Common.{◌≡◌, ◌++◌, ◌-◌, length}
use Rattle.std.specs.List.{flat_map, range_with_len}
use Rattle.tt_state.specs.Snapshots.{list_in}
use Rattle.tt_improve.specs.Targets.{courses_with, seated_courses}
use Rattle.tt_improve.proofs.targets.add_courses.Given as goal

abbrev pub invariant-loop-student : goal.invariant-loop-student
invariant-loop-student l =
    l.targets.items ++ flat_map (λ student. courses_with l.state.problem student (list_in l.state.present student)) (range_with_len l.student (length l.state.problem.students - l.student))
    ≡ l.initial.targets.items ++ seated_courses l.state.problem l.state.present
