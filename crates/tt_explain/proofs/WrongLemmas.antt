-- What is wrong in a sound snapshot, and how much it is.
use Rattle.std.proofs.Common.{◌≡◌, ◌∙◌, ℕ, suc, ◌+◌, ◌<◌, Bool, true, false, cond, List, [], ◌∷◌, ◌++◌, Option, Some, None, length, get_or, refl, sym, ap, arith, inl, inr, length-append}
use Rattle.std.specs.Prelude.{◌↔◌, ◌&&◌, ◌==◌, not, is_none, sum_by, slice_get, zip}
use Rattle.std.specs.List.{range_with_len, flat_map}
use Rattle.std.proofs.lemmas.Bool.{and_parts, and_from, eq-eqb, eqb-true, ne_eqb}
use Rattle.std.proofs.lemmas.List.{nil_from_length}
use Rattle.std.proofs.lemmas.List.Concat.{length-flat_map}
use Rattle.std.proofs.lemmas.List.Sums.{sum_by-cons}
use Rattle.std.proofs.lemmas.Option.{slice_get_cases}
use Rattle.tt_bits.specs.declared.times.Value.{Value}
use Rattle.tt_problem.specs.declared.parts.StudentPart.{StudentPart}
use Rattle.tt_problem.specs.declared.parts.Parts.{Parts}
use Rattle.tt_plan.specs.Domain.{spots_of}
use Rattle.tt_roster.specs.Lists.{list_of}
use Rattle.tt_score.specs.declared.totals.Totals.{Totals}
use Rattle.tt_score.specs.Additions.{unplaced_count}
use Rattle.tt_score.specs.Totals.{totals_of}
use Rattle.tt_score.specs.Unsectioned.{is_unsectioned, unsectioned_count}
use Rattle.tt_state.specs.Seats.{may_have}
use Rattle.tt_state.specs.Snapshots.{Snapshot, list_in}
use Rattle.tt_state.specs.Sound.{AreListsOf, IsSound, is_ready, lacks_classes, no_faults}
use Rattle.tt_struct.specs.Enrolments.{is_enrolment_of}
use Rattle.tt_verify.specs.declared.violation.Violation.{Violation}
use Rattle.tt_verify.specs.declared.violation.Violation.TheVariants as what
use Rattle.tt_verify.specs.Violations.{hard_violations}
use Rattle.tt_verify.proofs.HardLemmas.{as_many_as_hard}
use Rattle.tt_explain.specs.Violations.{enrolment_fault, fault_count, present_violations, unplaced_fault}

-- ---- the list of a student

-- whatever the test says of a list, one that lacks all classes fails
lacking : (none e : Bool) → none ≡ false → (e && not (not none && true)) ≡ not (not none && true)
lacking true e is = absurd cc
lacking false true is = refl
lacking false false is = refl

module _ (p : Parts) (part : StudentPart) where
  -- the empty list is a valid enrolment of a student without courses
  no_classes : (courses : List ℕ) → part.courses ≡ courses → (is_enrolment_of p part [] && not (is_unsectioned part [])) ≡ not (is_unsectioned part [])
  unfolding is_enrolment_of
  no_classes [] is = rw is refl
  no_classes (course ∷ courses) is =
      let some : (length (course ∷ courses) == 0) ≡ false = ne_eqb (length (course ∷ courses)) 0 (λ e. absurd (omega arith)) in
      rw is (lacking (length (course ∷ courses) == 0) _ some)

  -- a list that a student may have is a valid enrolment, but where it lacks all classes
  may_is : (student : ℕ) (list : List ℕ) → slice_get p.students student ≡ Some part → may_have p student list ≡ true → (is_enrolment_of p part list && not (is_unsectioned part list)) ≡ not (is_unsectioned part list)
  may_is student [] at may = no_classes part.courses refl
  may_is student (class ∷ list) at may =
      let valid : is_enrolment_of p part (class ∷ list) ≡ true = rw at at may in
      ap (λ (b : Bool). b && not (is_unsectioned part (class ∷ list))) valid

-- the fault, where the list is no enrolment
abbrev invalid_if : (student : ℕ) → Bool → List Violation
invalid_if student lacks = cond lacks (what.Invalid student ∷ []) []

other_way : (student : ℕ) (b : Bool) → cond (not b) [] (what.Invalid student ∷ []) ≡ invalid_if student b
other_way student true = refl
other_way student false = refl

module _ (p : Parts) (s : Snapshot) (lists : AreListsOf p s.lists) (student : ℕ) where
  fault_at : (part : StudentPart) → slice_get p.students student ≡ Some part → enrolment_fault p s student ≡ invalid_if student (is_unsectioned part (list_in s student))
  unfolding enrolment_fault lacks_classes
  fault_at part at =
      rw at (ap (λ (b : Bool). cond b [] (what.Invalid student ∷ [])) (may_is p part student (list_in s student) at (lists.enrolled student)) ∙ other_way student (is_unsectioned part (list_in s student)))

  lacks_at : (part : StudentPart) → slice_get p.students student ≡ Some part → lacks_classes p s student ≡ is_unsectioned part (list_in s student)
  unfolding lacks_classes
  lacks_at part at = rw at refl

  -- the list of a sound snapshot is invalid where it lacks all classes alone
  pub fault_of_sound : (lacks : Bool) → student < length p.students → lacks_classes p s student ≡ lacks → enrolment_fault p s student ≡ invalid_if student lacks
  fault_of_sound lacks within is = elim (slice_get_cases p.students student).1 [
    | inl found ↦ fault_at found.0 found.2 ∙ ap (invalid_if student) (sym (lacks_at found.0 found.2) ∙ is)
    | inr past ↦ absurd (omega (arith, past.0, within))
  ]

-- ---- how many there are

-- a sum over places is one over the items
sum_by_place : {A : Type 0} (g : ℕ → ℕ) (f : A → ℕ) (d : A) (from : ℕ) (xs : List A) → ((i : ℕ) → i < length xs → g (from + i) ≡ f (get_or xs i d)) → sum_by g (range_with_len from (length xs)) ≡ sum_by f xs
sum_by_place g f d from [] same = refl
sum_by_place g f d from (x ∷ xs) same =
    let start : from + 0 ≡ from = omega arith in
    let here : g from ≡ f x = rw start at (same 0 (omega arith)) in
    let rest = sum_by_place g f d (from + 1) xs (λ i lt. let e : from + suc i ≡ from + 1 + i = omega arith in rw e at (same (suc i) (omega arith))) in
    omega (arith, sum_by-cons g from (range_with_len (from + 1) (length xs)), sum_by-cons f x xs, here, rest)

students_by_place : (g : ℕ → ℕ) (from : ℕ) (students : List StudentPart) (lists : List (List ℕ)) → length lists ≡ length students
    → ((i : ℕ) (part : StudentPart) → slice_get students i ≡ Some part → g (from + i) ≡ cond (is_unsectioned part (list_of lists i)) 1 0) → sum_by g (range_with_len from (length students)) ≡ unsectioned_count students lists
students_by_place g from [] lists whole same = refl
students_by_place g from (part ∷ students) [] whole same = absurd (omega arith)
students_by_place g from (part ∷ students) (list ∷ lists) whole same =
    let start : from + 0 ≡ from = omega arith in
    let here : g from ≡ cond (is_unsectioned part list) 1 0 = rw start at (same 0 part refl) in
    let rest = students_by_place g (from + 1) students lists (omega arith) (λ i other at. let e : from + suc i ≡ from + 1 + i = omega arith in rw e at (same (suc i) other at)) in
    omega (arith, sum_by-cons g from (range_with_len (from + 1) (length students)), sum_by-cons (λ (c : StudentPart × List ℕ). cond (is_unsectioned c.0 c.1) 1 0) (part, list) (zip students lists), here, rest)

one_if : (v : Violation) (b : Bool) → length (cond b (v ∷ []) []) ≡ cond b 1 0
one_if v true = refl
one_if v false = refl

abbrev unplaced_faults : Parts → Snapshot → List Violation
unplaced_faults p s = flat_map (unplaced_fault s) (range_with_len 0 (length p.classes))

abbrev enrolment_faults : Parts → Snapshot → List Violation
enrolment_faults p s = flat_map (enrolment_fault p s) (range_with_len 0 (length p.students))

abbrev hard_faults : Parts → Snapshot → List Violation
hard_faults p s = hard_violations p s.closures (spots_of p s.plan)

module _ (p : Parts) (s : Snapshot) (sound : IsSound p s) where
  length-unplaced_fault : (class : ℕ) → length (unplaced_fault s class) ≡ cond (is_none (get_or s.plan class None)) 1 0
  unfolding unplaced_fault
  length-unplaced_fault class = one_if (what.Missing class) (is_none (get_or s.plan class None))

  length-unplaced : length (unplaced_faults p s) ≡ unplaced_count s.plan
  length-unplaced =
      length-flat_map (unplaced_fault s) (range_with_len 0 (length p.classes))
      ∙ ap (λ (n : ℕ). sum_by (λ class. length (unplaced_fault s class)) (range_with_len 0 n)) (sym sound.plan.whole)
      ∙ sum_by_place (λ class. length (unplaced_fault s class)) (λ (o : Option Value). cond (is_none o) 1 0) None 0 s.plan (λ i lt. let e : 0 + i ≡ i = omega arith in rw e (length-unplaced_fault i))

  length-enrolment : length (enrolment_faults p s) ≡ unsectioned_count p.students s.lists
  length-enrolment =
      length-flat_map (enrolment_fault p s) (range_with_len 0 (length p.students))
      ∙ students_by_place (λ student. length (enrolment_fault p s student)) 0 p.students s.lists sound.lists.whole
      (λ i part at. let e : 0 + i ≡ i = omega arith in rw e (ap length (fault_at p s sound.lists i part at) ∙ one_if (what.Invalid i) (is_unsectioned part (list_in s i))))

  -- what is hard is as much as the totals count
  pub hard_as_counted : length (hard_violations p s.closures (spots_of p s.plan)) ≡ (totals_of p s.closures s.plan s.lists).hard
  hard_as_counted = as_many_as_hard p s.closures (spots_of p s.plan) s.plan s.lists sound.plan.whole refl

  pub all_as_counted : (t : Totals) → t ≡ totals_of p s.closures s.plan s.lists → length (present_violations p s) ≡ fault_count t
  unfolding present_violations
  all_as_counted t is =
      let counts : (x : Totals) → x ≡ totals_of p s.closures s.plan s.lists → (x.unplaced ≡ unplaced_count s.plan) × (x.unsectioned ≡ unsectioned_count p.students s.lists) × (x.hard ≡ length (hard_faults p s)) = λ x same. (ap (λ (y : Totals). y.unplaced) same, ap (λ (y : Totals). y.unsectioned) same, ap (λ (y : Totals). y.hard) same ∙ sym hard_as_counted) in
      let here = counts t is in
      omega (
        arith,
        length-append (unplaced_faults p s ++ enrolment_faults p s) (hard_faults p s),
        length-append (unplaced_faults p s) (enrolment_faults p s),
        length-unplaced,
        length-enrolment,
        here.0,
        here.1,
        here.2,
      )

none_by_count : (t : Totals) (vs : List Violation) → length vs ≡ fault_count t → (vs ≡ []) ↔ (no_faults t ≡ true)
unfolding no_faults
none_by_count t vs long = (
  λ none.
      let sum : fault_count t ≡ 0 = sym long ∙ ap length none in
      and_from _ _ (and_from _ _ (eq-eqb t.unplaced 0 (omega (arith, sum))) (eq-eqb t.unsectioned 0 (omega (arith, sum)))) (eq-eqb t.hard 0 (omega (arith, sum))),
  λ ready.
      let parts : ((t.unplaced == 0 && t.unsectioned == 0) ≡ true) × ((t.hard == 0) ≡ true) = and_parts (t.unplaced == 0 && t.unsectioned == 0) (t.hard == 0) ready in
      let first : ((t.unplaced == 0) ≡ true) × ((t.unsectioned == 0) ≡ true) = and_parts (t.unplaced == 0) (t.unsectioned == 0) parts.0 in
      nil_from_length vs (omega (arith, long, eqb-true t.unplaced 0 first.0, eqb-true t.unsectioned 0 first.1, eqb-true t.hard 0 parts.1)),
)

-- nothing is wrong exactly where the snapshot is ready
pub none_where_ready : (p : Parts) (s : Snapshot) → IsSound p s → (present_violations p s ≡ []) ↔ (is_ready p s ≡ true)
none_where_ready p s sound =
    let t = totals_of p s.closures s.plan s.lists in
    none_by_count t (present_violations p s) (all_as_counted p s sound t refl)
