use Rattle.std.proofs.Common.{◌≡◌, ◌<◌, ◌≤◌, [], length}
use Rattle.std.specs.Prelude.{All}
use Rattle.tt_problem.specs.ListLengths.{spans_at}
use Rattle.tt_struct.proofs.SpanWalks.{from}
use Rattle.tt_deluge.specs.Reading.{random_of}
use Rattle.tt_deluge.specs.StudentRounds.{drawn_choice}
use Rattle.tt_deluge.proofs.students.draw_classes.Given as goal

abbrev pub invariant-loop-place : goal.invariant-loop-place
invariant-loop-place l = record {
  below : All (λ class. class < length l.problem.classes) l.choice.items;
  few : length l.choice.items ≤ l.place;
  goes : drawn_choice l.problem l.rest [] (spans_at l.problem.subparts l.fn.config) (random_of l.fn.random)
      ≡ drawn_choice l.problem l.rest l.choice.items (spans_at l.problem.subparts (from l.place l.fn.config.after)) (random_of l.random);
}
