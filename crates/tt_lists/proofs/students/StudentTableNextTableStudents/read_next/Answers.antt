use Rattle.std.proofs.Common.{rules, ◌≡◌, ◌+◌, length, arith}
use Rattle.std.proofs.lemmas.Grind.{common_steps}
use Rattle.tt_lists.specs.Valid.{IsStudentAmong}
use Rattle.tt_lists.proofs.Following.{students_push}
use Rattle.tt_lists.proofs.students.StudentTableNextTableStudents.read_next.Goals as goal

pub returns-clause-valid : goal.returns-clause-valid
returns-clause-valid c =
    let student : IsStudentAmong c.args.self.now.courses (record { id = c.in_ok-id.id; courses = c.in_ok-courses.courses }) =
    first_of (search rules, grind (arith, common_steps)) in
    let count : length c.push.new.self.items ≡ c.args._place + 1 = first_of (search rules, grind (arith, common_steps)) in
    (c.requires.valid.0, students_push _ _ _ _ c.requires.valid.1 c.in_ok-push.ensures.items c.in_ok-add_id.ensures.last c.in_ok-add_id.ensures.distinct student, count)
