-- Contract. Which classes a student may get.
use Rattle.std.specs.Prelude.{◌≡◌, ℕ, ◌<◌, true, List, None, All, length}
use Rattle.tt_problem.specs.declared.parts.Parts.{Parts}
use Rattle.tt_struct.specs.Enrolments.{is_enrolment}
use Rattle.tt_state.specs.Seats.{first_without_seat}

-- the classes are of the problem, a valid enrolment of the student, and each has a seat for the student beside these lists
pub record MayGet (p : Parts) (lists : List (List ℕ)) (student : ℕ) (list : List ℕ) : Type 0 where
  pub below : All (λ c. c < length p.classes) list
  pub enrolment : is_enrolment p student list ≡ true
  pub seats : first_without_seat p lists student list ≡ None
