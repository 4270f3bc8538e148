use Rattle.std.proofs.Common.{◌≡◌, ◌≤◌, ℕ, ◌+◌, drop, length}
use Rattle.std.specs.Prelude.{slice_index}
use Rattle.tt_roster.specs.Lists.{Ascends}
use Rattle.tt_state.specs.Snapshots.{list_in}
use Rattle.tt_verify.specs.Pairs.{related_pairs}
use Rattle.tt_explain.specs.Pairs.{conflict_between, pairs_of, times_in}
use Rattle.tt_explain.proofs.pairs.count_student.Given as goal

abbrev pub invariant-loop-class : goal.invariant-loop-class
invariant-loop-class l =
    let p = l.state.problem in
    let s = l.state.present in
    record {
      counted : (class : ℕ) → slice_index l.counts class + times_in class (related_pairs (conflict_between p s) l.class-iterator) ≡ slice_index l.initial.counts class + pairs_of p s class l.student;
      left : l.class-iterator ≡ drop l.place (list_in s l.student);
      few : l.place + length l.class-iterator ≤ length p.classes;
      ascends : Ascends 0 (length p.classes) l.class-iterator;
    }
