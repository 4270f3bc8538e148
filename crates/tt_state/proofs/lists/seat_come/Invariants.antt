use Rattle.std.proofs.Common.{◌≡◌, ◌≤◌, ℕ, true, [], drop, length}
use Rattle.std.specs.Prelude.{slice_set}
use Rattle.tt_base.specs.Lists.{is_listed}
use Rattle.tt_roster.specs.Lists.{list_of}
use Rattle.tt_struct.specs.Enrolments.{has_no_repeat}
use Rattle.tt_score.specs.Fits.{Fits, plan_of, student_lists, closures_of}
use Rattle.tt_state.specs.Snapshots.{classes_in_order}
use Rattle.tt_state.specs.History.{come_to, seated_by}
use Rattle.tt_state.specs.Past.{joined}
use Rattle.tt_state.proofs.lists.seat_come.Given as goal

abbrev pub invariant-loop-class : goal.invariant-loop-class
invariant-loop-class l = record {
  fits : Fits l.problem l.score;
  planned : plan_of l.score ≡ plan_of l.fn.score;
  closed : closures_of l.score ≡ closures_of l.fn.score;
  lists : slice_set (student_lists l.score) l.student [] ≡ slice_set (student_lists l.fn.score) l.student [];
  becomes : joined (list_of (student_lists l.score) l.student) (come_to (list_of (student_lists l.fn.score) l.student) (drop l.class-index l.classes)) ≡ classes_in_order l.classes;
  entries : seated_by l.student (come_to (list_of (student_lists l.fn.score) l.student) (drop l.class-index l.classes)) l.past.list
      ≡ seated_by l.student (come_to (list_of (student_lists l.fn.score) l.student) l.classes) l.fn.past.list;
  spare : length (come_to (list_of (student_lists l.fn.score) l.student) (drop l.class-index l.classes)) ≤ l.past.spare;
  same : (c : ℕ) → is_listed c (drop l.class-index l.classes) ≡ true → is_listed c (list_of (student_lists l.score) l.student) ≡ is_listed c (list_of (student_lists l.fn.score) l.student);
  once : has_no_repeat (drop l.class-index l.classes) ≡ true;
}
