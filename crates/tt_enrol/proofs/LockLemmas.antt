-- Enrolling moves no class, and leaves the locks.
use Rattle.std.proofs.Common.{◌≡◌, ℕ, Bool, true, false, List, [], ◌∷◌, Option, Some, None, length, refl, sym, ap, subst, ◌∙◌}
use Rattle.std.specs.Prelude.{fold, if◌then◌else◌, slice_index_or}
use Rattle.std.specs.List.{range_with_len}
use Rattle.std.specs.Option.{option_map}
use Rattle.tt_problem.specs.declared.parts.Parts.{Parts}
use Rattle.tt_state.specs.Snapshots.{Snapshot, StaysLocked, classes_in_order, with_list}
use Rattle.tt_state.specs.Sound.{lacks_classes}
use Rattle.tt_enrol.specs.Students.{classes_found}
use Rattle.tt_enrol.specs.Enrolled.{AllEnrolled, all_enrolled, enrolled, one_student_more, with_student}

-- a snapshot has the values and the locks of another
record HasPlacesOf (s t : Snapshot) : Type 0 where
  plan : t.plan ≡ s.plan
  locks : t.locks ≡ s.locks

locked_stay : (s t : Snapshot) → HasPlacesOf s t → (class : ℕ) → StaysLocked s t class
locked_stay s t has class = λ locked. (ap (λ plan. slice_index_or plan class None) has.plan, ap (λ locks. slice_index_or locks class false) has.locks ∙ locked)

enrolled_has : (p : Parts) (first s t : Snapshot) (student : ℕ) → HasPlacesOf first s → enrolled p s student ≡ Some t → HasPlacesOf first t
unfolding enrolled
enrolled_has p first s t student has is = by (classes_found p s student) is
  where
    by : (o : Option (List ℕ)) → option_map (λ list. with_list s student (classes_in_order list)) o ≡ Some t → HasPlacesOf first t
    by None is = absurd (cc)
    by (Some list) is = let same : with_list s student (classes_in_order list) ≡ t = cc in subst (HasPlacesOf first) same (record { plan = has.plan; locks = has.locks })

next_has : (p : Parts) (first : Snapshot) (all : AllEnrolled) (student : ℕ) → HasPlacesOf first all.snapshot → HasPlacesOf first (with_student p all student).snapshot
next_has p first all student has = by (lacks_classes p all.snapshot student)
  where
    more : (o : Option Snapshot) → enrolled p all.snapshot student ≡ o → HasPlacesOf first (one_student_more all o).snapshot
    more None is = has
    more (Some now) is = enrolled_has p first all.snapshot now student has is

    by : (lacks : Bool) → HasPlacesOf first (if lacks then one_student_more all (enrolled p all.snapshot student) else all).snapshot
    by true = more (enrolled p all.snapshot student) refl
    by false = has

all_has : (p : Parts) (first : Snapshot) (all : AllEnrolled) (students : List ℕ) → HasPlacesOf first all.snapshot → HasPlacesOf first (fold (with_student p) all students).snapshot
all_has p first all [] has = has
all_has p first all (student ∷ rest) has = all_has p first (with_student p all student) rest (next_has p first all student has)

-- where one student is enrolled
pub one_stays : (p : Parts) (s t : Snapshot) (student : ℕ) → enrolled p s student ≡ Some t → (class : ℕ) → StaysLocked s t class
one_stays p s t student is = locked_stay s t (enrolled_has p s s t student (record { plan = refl; locks = refl }) is)

-- where all are
pub all_stay : (p : Parts) (s t : Snapshot) → t ≡ (all_enrolled p s).snapshot → (class : ℕ) → StaysLocked s t class
unfolding all_enrolled
all_stay p s t is = subst (λ (t : Snapshot). (class : ℕ) → StaysLocked s t class) (sym is)
    (locked_stay s (all_enrolled p s).snapshot (all_has p s (record { snapshot = s; enrolled = 0; left = 0 }) (range_with_len 0 (length p.students)) (record { plan = refl; locks = refl })))
