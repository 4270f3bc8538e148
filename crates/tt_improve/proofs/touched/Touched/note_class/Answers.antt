use Rattle.std.proofs.Common.{◌≡◌, ℕ, ◌∙◌, ◌<◌, Bool, cond, List, Some, length, refl, ap, arith, subst}
use Rattle.std.specs.Vec.{with_item, with_items}
use Rattle.std.proofs.lemmas.List.{with_items_is}
use Rattle.std.specs.Prelude.{slice_index}
use Rattle.std.proofs.lemmas.List.Elements.{recursion_from_All}
use Rattle.tt_base.specs.Lists.{is_listed}
use Rattle.tt_roster.specs.Attendees.{AreStudentsOf}
use Rattle.tt_roster.specs.Lists.{students_of}
use Rattle.tt_roster.proofs.StudentLemmas.{students-listed, students-within}
use Rattle.tt_problem.specs.declared.parts.Parts.{Parts}
use Rattle.tt_problem.specs.Places.{course_of}
use Rattle.tt_improve.specs.declared.touched.Touched.{Touched}
use Rattle.tt_improve.proofs.TouchedLemmas.{class_noted}
use Rattle.tt_improve.proofs.touched.Touched.note_class.Goals as goal
use Rattle.tt_improve.proofs.touched.Touched.note_class.Goals.{After-attendees-students}

-- the students who have the class
students : (c : After-attendees-students) → AreStudentsOf c.attendees-students.result c.args.state.now.present.lists c.args.class
students c = subst (λ (l : List (List ℕ)). AreStudentsOf c.attendees-students.result l c.args.class) (c.roster.ensures.lists ∙ c.score.ensures.lists) c.attendees-students.ensures

pub attendees-students-requires : goal.attendees-students-requires
attendees-students-requires c = rw c.roster.ensures.roster (omega (arith, c.score.ensures.fits.roster.classes, c.requires.class))

pub note_students-requires : goal.note_students-requires
note_students-requires c =
    let h = c.args.state.now in
    let whole : length h.present.lists ≡ length c.as_mut_slice.result.now = omega (arith, c.soundness.ensures.present.lists.whole, c.requires.whole.students, ap (λ (l : List ℕ). length l) c.as_mut_slice.ensures.value) in
    recursion_from_All (λ place. place < length c.as_mut_slice.result.now) c.attendees-students.result
    (students-within c.attendees-students.result (length c.as_mut_slice.result.now) h.present.lists c.args.class whole (students (goal.at.note_students-requires c).After-attendees-students))

pub returns-clause-noted : goal.returns-clause-noted
returns-clause-noted c =
    let h = c.args.state.now in
    let listed = λ (k : ℕ). students-listed k c.attendees-students.result h.present.lists c.args.class (students (goal.at.returns-clause-noted c).After-attendees-students) in
    let here : course_of h.problem c.args.class ≡ Some c.course_of-course.result = subst (λ (p : Parts). course_of p c.args.class ≡ Some c.course_of-course.result) c.problem.ensures c.course_of-course.ensures.place in
    let within : c.course_of-course.result < length c.args.self.now.courses.items = omega (arith, c.requires.whole.courses, c.course_of-course.ensures.in_range, ap (λ (p : Parts). length p.courses) c.problem.ensures) in
    let new : Touched = record {
      any_class = c.args.stage;
      classes = c.args.self.now.classes;
      students = with_items c.args.self.now.students c.note_students.new.table;
      courses = with_item c.args.self.now.courses c.course_of-course.result c.args.stage;
    } in
    class_noted h.problem h.present c.args.self.now new c.args.class c.course_of-course.result c.args.stage here within refl refl
    (λ k.
    ap (λ (l : List ℕ). slice_index l k) (with_items_is c.args.self.now.students c.note_students.new.table (c.note_students.ensures.whole ∙ c.as_mut_slice.ensures.len)) ∙ c.note_students.ensures.stages k ∙ ap (λ (b : Bool). cond b c.args.stage (slice_index c.as_mut_slice.result.now k)) (listed k)
    ∙ ap (λ (l : List ℕ). cond (is_listed k (students_of h.present.lists c.args.class)) c.args.stage (slice_index l k)) c.as_mut_slice.ensures.value)
