use Rattle.std.proofs.Common.{◌≡◌, ◌≤◌, count_by, take}
use Rattle.tt_published.specs.Published.{is_moved}
use Rattle.tt_desk.proofs.moved.count_of.Given as goal

abbrev pub invariant-loop-class : goal.invariant-loop-class
invariant-loop-class l = record {
  count : l.count ≡ count_by (is_moved l.state.problem l.state.present.plan l.published) (take l.class-index l.classes);
  few : l.count ≤ l.class-index;
}
