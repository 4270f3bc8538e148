-- The laws of the least enrolment.
use Rattle.std.proofs.Common.{◌≡◌, ℕ, ◌<◌, List, Some, None, false, true, length}
use Rattle.std.specs.Prelude.{filter}
use Rattle.std.specs.List.{AllByRecursion}
use Rattle.tt_base.specs.Lists.{is_less}
use Rattle.tt_problem.specs.declared.parts.Parts.{Parts}
use Rattle.tt_problem.specs.Valid.{IsValid}
use Rattle.tt_struct.specs.Enrolments.{is_enrolment}
use Rattle.tt_state.specs.Seats.{first_without_seat}
use Rattle.tt_state.specs.Snapshots.{Snapshot}
use Rattle.tt_choice.specs.Least.{Situation, is_allowed, choice_numbers, least_choice}
use Rattle.tt_choice.proofs.LeastLemmas.{least_choice-least}
use Rattle.tt_enrol.specs.Students.{classes_found}
use Rattle.tt_enrol.proofs.EnrolLemmas.{found_fits}

-- no allowed choice is less than the least: none adds fewer pairs, or as many with a list of classes
-- that comes before
pub least : (s : Situation) (choices : List (List ℕ)) (choice : List ℕ) → least_choice s choices ≡ Some choice
    → AllByRecursion (λ other. is_less (choice_numbers s) other choice ≡ false) (filter (is_allowed s) choices)
least s choices choice is = least_choice-least s choices choice is

-- the classes found for a student are a valid enrolment
pub enrolment : (p : Parts) (s : Snapshot) (student : ℕ) (list : List ℕ) → IsValid p → student < length p.students → classes_found p s student ≡ Some list
    → is_enrolment p student list ≡ true
enrolment p s student list valid within found = (found_fits p s student list valid within found).enrolment

-- each class found for a student has a seat
pub seats : (p : Parts) (s : Snapshot) (student : ℕ) (list : List ℕ) → IsValid p → student < length p.students → classes_found p s student ≡ Some list
    → first_without_seat p s.lists student list ≡ None
seats p s student list valid within found = (found_fits p s student list valid within found).seats
