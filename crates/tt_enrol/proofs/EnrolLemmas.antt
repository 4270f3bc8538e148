-- What is found for a student.
use Rattle.std.proofs.Common.{◌≡◌, ℕ, ◌<◌, List, [], Some, None, Ok, Err, length, get_or, refl, ap}
use Rattle.std.specs.Prelude.{OnErr}
use Rattle.std.specs.declared.result.Result.{Result}
use Rattle.std.specs.Option.{option_map}
use Rattle.std.proofs.lemmas.Option.{slice_get-get_or}
use Rattle.tt_problem.specs.declared.parts.StudentPart.{StudentPart}
use Rattle.tt_problem.specs.declared.parts.Parts.{Parts}
use Rattle.tt_problem.specs.Valid.{IsValid}
use Rattle.tt_state.specs.Faults.{section_fault_of}
use Rattle.tt_state.specs.Snapshots.{Snapshot, with_list, classes_in_order}
use Rattle.tt_enrol.specs.Students.{classes_found}
use Rattle.tt_enrol.specs.Enrolled.{enrolled}
use Rattle.tt_choice.specs.Seating.{MayGet}
use Rattle.tt_enrol.proofs.FoundValid.{found_valid}

no_student : StudentPart
no_student = record { id = 0; courses = [] }

-- and it is valid
pub found_fits : (p : Parts) (s : Snapshot) (student : ℕ) (list : List ℕ) → IsValid p → student < length p.students → classes_found p s student ≡ Some list → MayGet p s.lists student list
found_fits p s student list valid lt e =
    found_valid p s student (get_or p.students student no_student) list valid (slice_get-get_or p.students student no_student lt) (valid.students student no_student lt) e

pub enrolled_none : (p : Parts) (s : Snapshot) (student : ℕ) → classes_found p s student ≡ None → enrolled p s student ≡ None
unfolding enrolled
enrolled_none p s student e = ap (option_map (λ list. with_list s student (classes_in_order list))) e

pub enrolled_some : (p : Parts) (s : Snapshot) (student : ℕ) (list : List ℕ) → classes_found p s student ≡ Some list → enrolled p s student ≡ Some (with_list s student (classes_in_order list))
unfolding enrolled
enrolled_some p s student list e = ap (option_map (λ list. with_list s student (classes_in_order list))) e

-- what holds anyhow holds on an error
pub on_err : {T E P : Type 0} (r : Result T E) → P → OnErr r P
on_err (Ok x) h = tt
on_err (Err e) h = h

-- classes that a student may get have no fault
pub none_wrong : (p : Parts) (lists : List (List ℕ)) (student : ℕ) (list : List ℕ) → MayGet p lists student list → section_fault_of p lists student list ≡ None
none_wrong p lists student list may = rw (may.enrolment, may.seats) refl
