use Rattle.std.proofs.Common.{◌≡◌, ◌<◌, length}
use Rattle.std.specs.List.{AllByRecursion}
use Rattle.tt_state.specs.Snapshots.{list_in}
use Rattle.tt_improve.specs.Pairs.{meets_another}
use Rattle.tt_improve.proofs.pairs.meets_another.Given as goal

abbrev pub invariant-loop-other : goal.invariant-loop-other
invariant-loop-other l = record {
  can : goal.iterator-loop-other.can_next l.other-iterator;
  finite : goal.iterator-loop-other.is_finite l.other-iterator;
  below : AllByRecursion (λ class. class < length l.state.problem.classes) l.other-iterator;
  ahead : meets_another l.state.problem l.state.present l.other-iterator l.class ≡ meets_another l.state.problem l.state.present (list_in l.state.present l.student) l.class;
}
