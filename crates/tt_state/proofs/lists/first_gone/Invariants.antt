use Rattle.std.proofs.Common.{◌≡◌, ◌<◌, ℕ, true}
use Rattle.tt_base.specs.Lists.{is_listed}
use Rattle.tt_roster.specs.Lists.{list_of}
use Rattle.tt_score.specs.Fits.{student_lists}
use Rattle.tt_state.specs.History.{gone_from}
use Rattle.tt_state.proofs.lists.first_gone.Given as goal

abbrev pub invariant-loop-class : goal.invariant-loop-class
invariant-loop-class l = record {
  can : goal.iterator-loop-class.can_next l.class-iterator;
  finite : goal.iterator-loop-class.is_finite l.class-iterator;
  passed : (c : ℕ) → c < l.from → is_listed c l.class-iterator ≡ true → is_listed c l.classes ≡ true;
  gone : gone_from l.class-iterator l.classes ≡ gone_from (list_of (student_lists l.score) l.student) l.classes;
}
