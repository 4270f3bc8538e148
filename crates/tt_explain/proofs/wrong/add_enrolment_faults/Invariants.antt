use Rattle.std.proofs.Common.{◌≡◌, ◌++◌}
use Rattle.std.specs.List.{flat_map, range_with_len}
use Rattle.tt_explain.specs.Violations.{enrolment_fault}
use Rattle.tt_explain.proofs.wrong.add_enrolment_faults.Given as goal

abbrev pub invariant-loop-student : goal.invariant-loop-student
invariant-loop-student l = l.found.items ≡ l.fn.found.items ++ flat_map (enrolment_fault l.state.problem l.state.present) (range_with_len 0 l.student)
