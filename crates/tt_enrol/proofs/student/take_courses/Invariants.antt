use Rattle.std.proofs.Common.{◌≡◌, ◌*◌, ◌≤◌, [], Some, length, take, map}
use Rattle.std.specs.List.{fold}
use Rattle.tt_choice.specs.Choices.{choices_at}
use Rattle.tt_choice.specs.Ready.{HasRoomToChoose}
use Rattle.tt_choice.specs.Situations.{situation_of}
use Rattle.tt_enrol.specs.Students.{with_course}
use Rattle.tt_enrol.proofs.student.take_courses.Given as goal

abbrev pub invariant-loop-course : goal.invariant-loop-course
invariant-loop-course l = record {
  -- the classes taken are those of the courses passed
  same : Some (take l.count l.already) ≡ fold (with_course (situation_of l.state.problem l.state.present l.student [])) (Some []) (map (choices_at l.state.problem) (take l.course-index l.course-items));
  few : l.count ≤ l.course-index * length l.state.problem.subparts;
  room : HasRoomToChoose l.state.problem l.choices;
}
