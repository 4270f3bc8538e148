use Rattle.std.proofs.Common.{◌≡◌, ◌<◌, ◌≤◌, ◌++◌, ℕ, List, [], Some, length, map, take, arith, ap, sym, ◌∙◌, subst, length-take}
use Rattle.std.specs.Prelude.{slice_get}
use Rattle.tt_problem.specs.declared.parts.Parts.{Parts}
use Rattle.tt_problem.specs.Valid.{IsValid}
use Rattle.tt_problem.proofs.SpanLemmas.{few_subparts}
use Rattle.tt_choice.specs.Choices.{choices_at}
use Rattle.tt_enrol.specs.Steps.{taken_in}
use Rattle.tt_choice.specs.Situations.{situation_of}
use Rattle.tt_enrol.proofs.EnrolledLemmas.{enrolled-more, enrolled-stops}
use Rattle.tt_enrol.proofs.TakenLemmas.{few_so_far, room_for, few_next, courses_are}
use Rattle.tt_enrol.proofs.student.take_courses.Goals as goal

pub least_of_course-requires-clause-few_already : goal.least_of_course-requires-clause-few_already
least_of_course-requires-clause-few_already c =
    let p = c.args.state.now.problem in
    let courses : length c.as_slice-course-items.result.now ≤ 40 = omega (arith, ap length c.as_slice-course-items.ensures, c.student.ensures.valid.few) in
    let few = few_so_far c.loop-course.course-index (length p.subparts) c.loop-course.count c.loop-course.invariant.few (omega arith) (few_subparts p (subst IsValid c.problem-problem.ensures c.validity.ensures)) in
    omega (arith, few, length-take c.loop-course.count c.loop-course.already)

pub returns-in-None-clause-found : goal.returns-in-None-clause-found
returns-in-None-clause-found c =
    let p = c.args.state.now.problem in
    let at = situation_of p c.args.state.now.present c.args.student [] in
    let courses = c.as_slice-course-items.result.now in
    let front = take c.loop-course.count c.loop-course.already in
    enrolled-stops at (choices_at p) courses c.loop-course.course-index 0 front c.loop-course-test.true c.loop-course.invariant.same c.in-None.ensures.choice
    ∙ ap (λ list. taken_in at (map (choices_at p) list)) (courses_are p c.args.student c.student.result.now courses (ap (λ (q : Parts). slice_get q.students c.args.student) (sym c.problem-problem.ensures) ∙ c.student.ensures.part) c.as_slice-course-items.ensures)

pub append-requires-clause-room : goal.append-requires-clause-room
append-requires-clause-room c =
    let p = c.args.state.now.problem in
    let courses : length c.as_slice-course-items.result.now ≤ 40 = omega (arith, ap length c.as_slice-course-items.ensures, c.student.ensures.valid.few) in
    let long : length c.loop-course.already ≡ length c.args.already.now = omega arith in
    let before : c.loop-course.course-index < 40 = omega arith in
    room_for c.loop-course.course-index (length p.subparts) c.loop-course.count c.in-Some.size (length c.loop-course.already) c.loop-course.invariant.few before c.in-Some.ensures.few (omega (arith, c.requires.already))

pub loop-course-preserved : goal.loop-course-preserved
loop-course-preserved c =
    let p = c.args.state.now.problem in
    let at = situation_of p c.args.state.now.present c.args.student [] in
    let courses = c.as_slice-course-items.result.now in
    let front = take c.loop-course.count c.loop-course.already in
    let choice = take c.in-Some.size c.least_of_course.new.buffers.best.items in
    record {
      same = ap Some c.append.ensures
          ∙ ap (λ (l : List ℕ). Some (front ++ take c.in-Some.size l)) c.as_slice.ensures.value
          ∙ enrolled-more at (choices_at p) courses c.loop-course.course-index 0 front c.loop-course-test.true c.loop-course.invariant.same choice c.in-Some.ensures.choice;
      few = few_next c.loop-course.course-index (length p.subparts) c.loop-course.count c.in-Some.size c.loop-course.invariant.few c.in-Some.ensures.few;
      room = c.least_of_course.ensures.room;
    }
