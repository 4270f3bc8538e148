-- A drawn choice that replaces a student's own classes of a course, where the total is then at most a level.
use Rattle.std.proofs.Common.{◌≡◌, ℕ, ◌+◌, ◌-◌, ◌*◌, ◌<◌, ◌≤◌, Bool, true, false, cond, List, [], ◌∷◌, ◌++◌, Option, Some, None, length, refl, sym, ap, ◌∙◌, subst, arith, nat_eq, nat_le}
use Rattle.std.specs.Prelude.{◌&&◌, All, not, is_some, option_map, if◌then◌else◌}
use Rattle.std.specs.Cmp.Lexicographic.{pointwise}
use Rattle.std.specs.List.{AllByRecursion, filter, find, list_all}
use Rattle.std.proofs.lemmas.Bool.{leb-true}
use Rattle.std.proofs.lemmas.Bool.Decides.{nat_tests}
use Rattle.std.proofs.lemmas.List.Elements.{All-append, All-from_recursion}
use Rattle.std.proofs.lemmas.List.Folds.{list_all-append}
use Rattle.tt_problem.specs.declared.parts.Parts.{Parts}
use Rattle.tt_problem.specs.Valid.{IsValid}
use Rattle.tt_struct.specs.Enrolments.{is_enrolment}
use Rattle.tt_state.specs.declared.seats.SectionFault.{SectionFault}
use Rattle.tt_state.specs.declared.seats.SectionFault.TheVariants.{Full, Invalid}
use Rattle.tt_state.specs.Faults.{section_fault_of}
use Rattle.tt_state.specs.Seats.{first_without_seat, has_seat}
use Rattle.tt_state.specs.Snapshots.{Snapshot, classes_in_order, list_in, with_list}
use Rattle.tt_state.specs.Sound.{IsSound}
use Rattle.tt_choice.specs.Least.{pairs_added}
use Rattle.tt_choice.proofs.SeatingLemmas.{all_seats}
use Rattle.tt_improve.specs.Classes.{total_of}
use Rattle.tt_improve.specs.Courses.{beside, may_replace, own_of, rest_of}
use Rattle.tt_improve.specs.Targets.{movable_classes}
use Rattle.tt_improve.specs.Standing.{IsSeatedIn}
use Rattle.tt_improve.specs.declared.targets.Target.{Target}
use Rattle.tt_improve.proofs.StudentLemmas.{replaced_courses, replaced_total, rest_below, rest_seats}
use Rattle.tt_deluge.specs.Standing.{StandsAs}
use Rattle.tt_deluge.specs.StudentRounds.{choices_in, is_choice, replaced}
use Rattle.tt_deluge.specs.Pieces.{Targets, made_within}

-- where no item fails, all pass
none_fails : (f : ℕ → Bool) (xs : List ℕ) → find (λ c. not (f c)) xs ≡ None → list_all f xs ≡ true
none_fails f [] e = refl
none_fails f (x ∷ xs) e = by (f x) refl e (none_fails f xs)
  where
    by : (b : Bool) → f x ≡ b → cond (not b) (Some x) (find (λ c. not (f c)) xs) ≡ None → (find (λ c. not (f c)) xs ≡ None → list_all f xs ≡ true) → (b && list_all f xs) ≡ true
    by true is e rest = rest e
    by false is e rest = absurd (cc e)

-- whether a choice may replace the own classes, by the fault of the list with it
module _ (p : Parts) (s : Snapshot) (student : ℕ) (rest choice : List ℕ) (seats : list_all (has_seat p s.lists student) rest ≡ true) where
  seats_are : list_all (has_seat p s.lists student) (rest ++ choice) ≡ list_all (has_seat p s.lists student) choice
  seats_are = list_all-append (has_seat p s.lists student) rest choice ∙ ap (λ (b : Bool). b && list_all (has_seat p s.lists student) choice) seats

  abbrev full : Option ℕ
  full = first_without_seat p s.lists student (rest ++ choice)

  -- a list with no fault
  may_by_none : section_fault_of p s.lists student (rest ++ choice) ≡ None → may_replace p s student rest choice ≡ true
  may_by_none none = by (is_enrolment p student (rest ++ choice)) full (none_fails (has_seat p s.lists student) (rest ++ choice)) none
    where
      by : (valid : Bool) (o : Option ℕ) → (o ≡ None → list_all (has_seat p s.lists student) (rest ++ choice) ≡ true) → (if valid then option_map (λ class. Full class) o else Some Invalid) ≡ None → (valid && list_all (has_seat p s.lists student) choice) ≡ true
      by true None all e = sym seats_are ∙ all refl
      by true (Some class) all e = absurd (cc e)
      by false o all e = absurd (cc e)

  -- a list with a fault
  may_by_some : is_some (section_fault_of p s.lists student (rest ++ choice)) ≡ true → may_replace p s student rest choice ≡ false
  may_by_some some = by (is_enrolment p student (rest ++ choice)) (list_all (has_seat p s.lists student) choice) refl some
    where
      by : (valid seated : Bool) → list_all (has_seat p s.lists student) choice ≡ seated → is_some (if valid then option_map (λ class. Full class) (first_without_seat p s.lists student (rest ++ choice)) else Some Invalid) ≡ true → (valid && seated) ≡ false
      by false seated is e = refl
      by true false is e = refl
      by true true is e =
          let none : first_without_seat p s.lists student (rest ++ choice) ≡ None = all_seats p s.lists student (rest ++ choice) (seats_are ∙ is) in
          absurd (let no = rw none at e in cc no)

-- what a choice comes to
module _ (p : Parts) (s : Snapshot) (student level : ℕ) (rest own choice : List ℕ) where
  abbrev now : Snapshot
  now = with_list s student (classes_in_order (rest ++ choice))

  made_none : (b : Bool) → b ≡ false → made_within p level (if b then Some now else None) ≡ None
  made_none b is = rw is refl

  and_none : (b : Bool) → (b && false) ≡ false
  and_none true = refl
  and_none false = refl

  may_not : may_replace p s student rest choice ≡ false → made_within p level (replaced p s student rest own choice) ≡ None
  may_not fails = made_none (not (pointwise nat_eq choice own) && may_replace p s student rest choice) (ap (λ (b : Bool). not (pointwise nat_eq choice own) && b) fails ∙ and_none (not (pointwise nat_eq choice own)))

  is_made : pointwise nat_eq choice own ≡ false → may_replace p s student rest choice ≡ true → nat_le (total_of p (with_list s student (classes_in_order (rest ++ choice)))) level ≡ true
      → made_within p level (replaced p s student rest own choice) ≡ Some (with_list s student (classes_in_order (rest ++ choice)))
  is_made other may low = rw (other, may, low) refl

-- the total, by the pairs
at_most : (total others adds had new level : ℕ) → new + had ≡ total + adds → others + had ≡ total → adds ≤ level → others ≤ level - adds → true ≡ nat_le new level
at_most total others adds had new level replaced_is others_are adds_low low = sym (yes new level (omega (arith, replaced_is, others_are, adds_low, low)))
  where
    yes : (m n : ℕ) → m ≤ n → nat_le m n ≡ true
    yes m n le = grind (arith, nat_tests)

above : (total others adds had new level : ℕ) → new + had ≡ total + adds → others + had ≡ total → level < adds + others → false ≡ nat_le new level
above total others adds had new level replaced_is others_are high = sym (no new level (omega (arith, replaced_is, others_are, high)))
  where
    no : (m n : ℕ) → n < m → nat_le m n ≡ false
    no m n lt = grind (arith, nat_tests)

-- the total, where the lists and the numbers are named
total_by : (p : Parts) (s : Snapshot) (student course : ℕ) → IsValid p → IsSound p s → IsSeatedIn p s student course → (rest own choice : List ℕ) → rest ≡ rest_of p course (list_in s student) → own ≡ own_of p course (list_in s student)
    → total_of p (with_list s student (classes_in_order (rest ++ choice))) + p.weights.student * pairs_added (beside p s student rest) own ≡ total_of p s + p.weights.student * pairs_added (beside p s student rest) choice
total_by p s student course valid sound target rest own choice r o =
    subst (λ (l : List ℕ). total_of p (with_list s student (classes_in_order (l ++ choice))) + p.weights.student * pairs_added (beside p s student l) own ≡ total_of p s + p.weights.student * pairs_added (beside p s student l) choice) (sym r)
    (subst (λ (l : List ℕ). total_of p (with_list s student (classes_in_order (rest_of p course (list_in s student) ++ choice))) + p.weights.student * pairs_added (beside p s student (rest_of p course (list_in s student))) l
    ≡ total_of p s + p.weights.student * pairs_added (beside p s student (rest_of p course (list_in s student))) choice) (sym o)
    (replaced_total p s student course valid sound target choice))

-- what the snapshot then stands on
abbrev both : List ℕ → List Target → Targets
both classes choices = record { classes = classes; choices = choices }

stands_then : (p : Parts) (s : Snapshot) (student course : ℕ) → IsValid p → IsSound p s → IsSeatedIn p s student course → (choice : List ℕ) → is_enrolment p student (rest_of p course (list_in s student) ++ choice) ≡ true
    → StandsAs p s (with_list s student (classes_in_order (rest_of p course (list_in s student) ++ choice)))
unfolding movable_classes choices_in
stands_then p s student course valid sound target choice is =
    let courses = replaced_courses p s student course valid sound target choice is in
    record {
      hard = omega arith;
      unplaced = omega arith;
      statistics = refl;
      closures = refl;
      locks = refl;
      targets = ap (λ (courses : List Target). both (movable_classes p s) (filter (is_choice p) courses)) courses;
      locked = λ class is. (refl, is);
    }

stands_replaced : (p : Parts) (s : Snapshot) (student course : ℕ) → IsValid p → IsSound p s → IsSeatedIn p s student course → (rest choice : List ℕ) → rest ≡ rest_of p course (list_in s student) → is_enrolment p student (rest ++ choice) ≡ true
    → StandsAs p s (with_list s student (classes_in_order (rest ++ choice)))
stands_replaced p s student course valid sound target rest choice r enrolled =
    subst (λ (l : List ℕ). is_enrolment p student (l ++ choice) ≡ true → StandsAs p s (with_list s student (classes_in_order (l ++ choice)))) (sym r) (stands_then p s student course valid sound target choice) enrolled

-- a list is the rest with a choice: what its fault tells, and what comes of it where there is none
module _ (p : Parts) (s : Snapshot) (student course : ℕ) (valid : IsValid p) (sound : IsSound p s) (target : IsSeatedIn p s student course) (rest own choice list : List ℕ) (r : rest ≡ rest_of p course (list_in s student)) (is : list ≡ rest ++ choice) where
  seats_of_rest : list_all (has_seat p s.lists student) rest ≡ true
  seats_of_rest = subst (λ (l : List ℕ). list_all (has_seat p s.lists student) l ≡ true) (sym r) (rest_seats p s student course valid sound target)

  no_fault : (o : Option SectionFault) → is_some o ≡ false → o ≡ None
  no_fault None e = refl
  no_fault (Some fault) e = absurd (cc e)

  none_is : (o : Option SectionFault) → o ≡ section_fault_of p s.lists student list → is_some o ≡ false → section_fault_of p s.lists student (rest ++ choice) ≡ None
  none_is o at none = sym (ap (section_fault_of p s.lists student) is) ∙ sym at ∙ no_fault o none

  enrolled_by : (b : Bool) (o : Option ℕ) → (if b then option_map (λ class. Full class) o else Some Invalid) ≡ None → b ≡ true
  enrolled_by true o e = refl
  enrolled_by false o e = absurd (cc e)

  pub refused : (level : ℕ) (o : Option SectionFault) → o ≡ section_fault_of p s.lists student list → is_some o ≡ true → made_within p level (replaced p s student rest own choice) ≡ None
  refused level o at some =
      may_not p s student level rest own choice (may_by_some p s student rest choice seats_of_rest (sym (ap is_some (at ∙ ap (section_fault_of p s.lists student) is)) ∙ some))

  pub list_below : All (λ (k : ℕ). k < length p.classes) choice → All (λ (k : ℕ). k < length p.classes) list
  list_below below =
      let front : AllByRecursion (λ (k : ℕ). k < length p.classes) rest = subst (AllByRecursion (λ (k : ℕ). k < length p.classes)) (sym r) (rest_below p s student course valid sound target) in
      subst (All (λ (k : ℕ). k < length p.classes)) (sym is) (All-append (λ (k : ℕ). k < length p.classes) rest choice (All-from_recursion (λ (k : ℕ). k < length p.classes) rest front) below)

  pub made_is : (level : ℕ) (after : Snapshot) (o : Option SectionFault) → o ≡ section_fault_of p s.lists student list → is_some o ≡ false → pointwise nat_eq choice own ≡ false
      → nat_le (total_of p (with_list s student (classes_in_order (rest ++ choice)))) level ≡ true → after ≡ with_list s student (classes_in_order list) → made_within p level (replaced p s student rest own choice) ≡ Some after
  made_is level after o at none other low present =
      is_made p s student level rest own choice other (may_by_none p s student rest choice seats_of_rest (none_is o at none)) low
      ∙ sym (ap (λ (t : Snapshot). Some t) (present ∙ ap (λ (l : List ℕ). with_list s student (classes_in_order l)) is))

  pub stands_is : (after : Snapshot) (o : Option SectionFault) → o ≡ section_fault_of p s.lists student list → is_some o ≡ false → after ≡ with_list s student (classes_in_order list) → StandsAs p s after
  stands_is after o at none present =
      let enrolled = enrolled_by (is_enrolment p student (rest ++ choice)) (first_without_seat p s.lists student (rest ++ choice)) (none_is o at none) in
      subst (λ (t : Snapshot). StandsAs p s t) (sym (present ∙ ap (λ (l : List ℕ). with_list s student (classes_in_order l)) is)) (stands_replaced p s student course valid sound target rest choice r enrolled)

-- whether the total is at most a level, by the pairs that the choice adds and those that the own classes had
module _ (p : Parts) (s : Snapshot) (student course : ℕ) (valid : IsValid p) (sound : IsSound p s) (target : IsSeatedIn p s student course) (rest own choice : List ℕ) (r : rest ≡ rest_of p course (list_in s student)) (o : own ≡ own_of p course (list_in s student)) (total had adds : ℕ) (total_is : total ≡ total_of p s)
    (had_is : had ≡ p.weights.student * pairs_added (beside p s student rest) own) (adds_is : adds ≡ p.weights.student * pairs_added (beside p s student rest) choice) where
  replaced_is : total_of p (with_list s student (classes_in_order (rest ++ choice))) + had ≡ total + adds
  replaced_is = rw (total_is, had_is, adds_is) (total_by p s student course valid sound target rest own choice r o)

  none_added : p.weights.student * pairs_added (beside p s student rest) [] ≡ 0
  none_added = omega arith

  pub had_low : had ≤ total
  had_low = omega (arith, total_is, had_is, none_added, total_by p s student course valid sound target rest own [] r o)

  pub level_tested : (others level : ℕ) → others + had ≡ total → adds ≤ level → nat_le others (level - adds) ≡ nat_le (total_of p (with_list s student (classes_in_order (rest ++ choice)))) level
  level_tested others level others_are low = by (nat_le others (level - adds)) refl
    where
      past : (m n : ℕ) → nat_le m n ≡ false → n < m
      past m n is = grind (arith, nat_tests)

      by : (b : Bool) → nat_le others (level - adds) ≡ b → b ≡ nat_le (total_of p (with_list s student (classes_in_order (rest ++ choice)))) level
      by true is = at_most total others adds had (total_of p (with_list s student (classes_in_order (rest ++ choice)))) level replaced_is others_are low (leb-true others (level - adds) is)
      by false is = above total others adds had (total_of p (with_list s student (classes_in_order (rest ++ choice)))) level replaced_is others_are (omega (arith, past others (level - adds) is, low))

  pub level_past : (level : ℕ) → level < adds → false ≡ nat_le (total_of p (with_list s student (classes_in_order (rest ++ choice)))) level
  level_past level high =
      above total (total - had) adds had (total_of p (with_list s student (classes_in_order (rest ++ choice)))) level replaced_is (omega (arith, had_low)) (omega (arith, high))

  pub level_low : (level : ℕ) → adds ≤ level → total ≤ level - adds → true ≡ nat_le (total_of p (with_list s student (classes_in_order (rest ++ choice)))) level
  level_low level fits low =
      at_most total (total - had) adds had (total_of p (with_list s student (classes_in_order (rest ++ choice)))) level replaced_is (omega (arith, had_low)) fits (omega (arith, low))
