use Rattle.std.proofs.Common.{◌≡◌, ◌<◌, ◌≤◌, ◌+◌, ℕ, true, [], length}
use Rattle.std.specs.Prelude.{slice_set}
use Rattle.tt_base.specs.Lists.{is_listed}
use Rattle.tt_roster.specs.Lists.{list_of}
use Rattle.tt_score.specs.Fits.{Fits, plan_of, student_lists, closures_of}
use Rattle.tt_state.specs.History.{gone_from, left_by}
use Rattle.tt_state.specs.Past.{kept_of}
use Rattle.tt_state.proofs.lists.leave_gone.Given as goal

abbrev pub invariant-loop-class : goal.invariant-loop-class
invariant-loop-class l = record {
  fits : Fits l.problem l.score;
  planned : plan_of l.score ≡ plan_of l.fn.score;
  closed : closures_of l.score ≡ closures_of l.fn.score;
  lists : slice_set (student_lists l.score) l.student [] ≡ slice_set (student_lists l.fn.score) l.student [];
  passed : (c : ℕ) → c < l.from → is_listed c (list_of (student_lists l.score) l.student) ≡ true → is_listed c l.classes ≡ true;
  kept : kept_of (list_of (student_lists l.score) l.student) l.classes ≡ kept_of (list_of (student_lists l.fn.score) l.student) l.classes;
  entries : left_by l.student (gone_from (list_of (student_lists l.score) l.student) l.classes) l.past.list
      ≡ left_by l.student (gone_from (list_of (student_lists l.fn.score) l.student) l.classes) l.fn.past.list;
  spare : l.past.spare + length (gone_from (list_of (student_lists l.fn.score) l.student) l.classes)
      ≡ l.fn.past.spare + length (gone_from (list_of (student_lists l.score) l.student) l.classes);
  enough : length (gone_from (list_of (student_lists l.score) l.student) l.classes) ≤ l.past.spare;
}

abbrev pub decreases-loop-class : goal.decreases-loop-class
decreases-loop-class l = length (gone_from (list_of (student_lists l.score) l.student) l.classes)
