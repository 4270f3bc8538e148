use Rattle.std.proofs.Common.{◌≡◌, ◌++◌, ◌<◌, length}
use Rattle.std.specs.List.{AllByRecursion}
use Rattle.tt_state.specs.Snapshots.{list_in}
use Rattle.tt_improve.specs.Courses.{own_of, rest_of}
use Rattle.tt_deluge.proofs.students.StudentBuffers.part.Given as goal

abbrev pub invariant-loop-class : goal.invariant-loop-class
invariant-loop-class l = record {
  can : goal.iterator-loop-class.can_next l.class-iterator;
  finite : goal.iterator-loop-class.is_finite l.class-iterator;
  below : AllByRecursion (λ class. class < length l.state.problem.classes) l.class-iterator;
  own : l.self.own.items ++ own_of l.state.problem l.course l.class-iterator ≡ own_of l.state.problem l.course (list_in l.state.present l.student);
  rest : l.self.rest.items ++ rest_of l.state.problem l.course l.class-iterator ≡ rest_of l.state.problem l.course (list_in l.state.present l.student);
}
