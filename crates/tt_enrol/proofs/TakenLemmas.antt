-- How many classes are taken, and from which choices.
use Rattle.std.proofs.Common.{◌≡◌, ℕ, ◌+◌, ◌*◌, ◌<◌, ◌≤◌, List, Some, arith}
use Rattle.std.specs.Prelude.{slice_get}
use Rattle.tt_problem.specs.declared.parts.StudentPart.{StudentPart}
use Rattle.tt_problem.specs.declared.parts.Parts.{Parts}
use Rattle.tt_choice.specs.Situations.{courses_of}

-- a student has few courses, and a course adds few classes
pub few_so_far : (i n count : ℕ) → count ≤ i * n → i ≤ 40 → n ≤ 20000 → count ≤ 800000
few_so_far i n count so_far courses few =
    let most : i * n ≤ 40 * 20000 = grind arith in
    omega arith

pub room_for : (i n count size room : ℕ) → count ≤ i * n → i < 40 → size ≤ n → 40 * n ≤ room → count + size ≤ room
room_for i n count size room so_far courses short h =
    let most : (i + 1) * n ≤ 40 * n = grind arith in
    omega arith

pub few_next : (i n count size : ℕ) → count ≤ i * n → size ≤ n → count + size ≤ (i + 1) * n
few_next i n count size so_far short = omega arith

-- the courses of a student by the student's part
pub courses_are : (p : Parts) (student : ℕ) (part : StudentPart) (courses : List ℕ) → slice_get p.students student ≡ Some part → courses ≡ part.courses → courses ≡ courses_of p student
courses_are p student part courses is e = rw is e
