use Rattle.std.proofs.Common.{◌≡◌, ◌<◌, length}
use Rattle.std.specs.List.{AllByRecursion}
use Rattle.tt_state.specs.Snapshots.{list_in}
use Rattle.tt_improve.specs.Pairs.{has_pair, has_pair_with}
use Rattle.tt_improve.proofs.pairs.has_pair.Given as goal

abbrev pub invariant-loop-class : goal.invariant-loop-class
invariant-loop-class l = record {
  can : goal.iterator-loop-class.can_next l.class-iterator;
  finite : goal.iterator-loop-class.is_finite l.class-iterator;
  below : AllByRecursion (λ class. class < length l.state.problem.classes) l.class-iterator;
  ahead : has_pair_with l.state.problem l.state.present l.course (list_in l.state.present l.student) l.class-iterator ≡ has_pair l.state.problem l.state.present l.course (list_in l.state.present l.student);
}
