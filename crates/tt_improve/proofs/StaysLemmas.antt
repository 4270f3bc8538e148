-- A target that was found at its best stays so over a change that has nothing in common with it.
use Rattle.std.proofs.Common.{◌≡◌, ◌≢◌, ℕ, ◌+◌, ◌*◌, ◌<◌, ◌≤◌, Bool, true, false, cond, List, [], ◌∷◌, ◌++◌, Option, Some, None, length, count_by, sum_by, refl, sym, ap, ◌∙◌, arith, nat_eq, nat_lt}
use Rattle.std.specs.Prelude.{◌&&◌, ◌||◌, not, slice_set, filter, if◌then◌else◌, option_and_then}
use Rattle.std.specs.List.{AllByRecursion, list_all}
use Rattle.std.specs.Option.{option_map_or}
use Rattle.std.proofs.lemmas.Bool.{eq-eqb, eqb-false, eqb-true, or_parts}
use Rattle.std.proofs.lemmas.List.{get_or-set_same, get_or-set_other, length-set, set_comm}
use Rattle.std.proofs.lemmas.List.Folds.{list_any-append}
use Rattle.std.proofs.lemmas.List.Sums.{sum_by-cons, sum_by-set}
use Rattle.tt_base.specs.Among.{pairs_among}
use Rattle.tt_base.specs.Lists.{is_listed}
use Rattle.tt_bits.specs.declared.times.Spot.{Spot}
use Rattle.tt_bits.specs.declared.times.Value.{Value}
use Rattle.tt_problem.specs.declared.parts.Parts.{Parts}
use Rattle.tt_problem.specs.Places.{course_of}
use Rattle.tt_problem.specs.Valid.{IsValid}
use Rattle.tt_plan.specs.Domain.{domain_of, spot_at_value, spots_of}
use Rattle.tt_roster.specs.Conflicts.{conflicts_in, in_conflict, student_conflicts}
use Rattle.tt_roster.proofs.ConflictLemmas.{conflicts-other}
use Rattle.tt_score.proofs.PlanLemmas.{spots_of-set}
use Rattle.tt_struct.specs.Enrolments.{is_enrolment}
use Rattle.tt_state.specs.Seats.{has_seat, limit_of, others_with}
use Rattle.tt_state.specs.Snapshots.{Snapshot, classes_in_order, list_in, with_list, with_value}
use Rattle.tt_state.specs.Sound.{IsSound}
use Rattle.tt_state.specs.Values.{conflict_set_of, total_with}
use Rattle.tt_state.proofs.SeatLemmas.{has-ordered}
use Rattle.tt_choice.specs.Choices.{choices_at}
use Rattle.tt_choice.specs.Least.{pairs_added}
use Rattle.tt_choice.proofs.CountLemmas.{not_listed}
use Rattle.tt_choice.proofs.Order.{all-weaken}
use Rattle.tt_choice.proofs.PlaceLemmas.{AllOfCourse}
use Rattle.tt_choice.proofs.ValidLemmas.{IsChoice, are_choices}
use Rattle.tt_improve.specs.declared.targets.Target.{Target}
use Rattle.tt_improve.specs.declared.targets.Target.TheVariants.{Class, Course}
use Rattle.tt_improve.specs.Classes.{at_lower, is_free, least_value, total_of}
use Rattle.tt_improve.specs.Courses.{at_fewer, beside, is_of_course, least_replacement, may_replace, own_of, replaced_by, rest_of}
use Rattle.tt_improve.specs.Changed.{changed_class, changed_student}
use Rattle.tt_improve.specs.Rounds.{changed_by}
use Rattle.tt_improve.specs.Standing.{IsSeatedIn, IsTargetOf}
use Rattle.tt_improve.specs.Touched.{have_in_common, meets}
use Rattle.tt_improve.proofs.LeastLemmas.{all_of_kept, below_none, kept_of_all, none_below}
use Rattle.tt_improve.proofs.StudentLemmas.{chosen_is, replacement_is, weighed, within_courses}

-- a class is at its best where none of its free values has a lower total
module _ (p : Parts) (s : Snapshot) (class : ℕ) where
  abbrev IsNoLower : Value → Type 0
  IsNoLower v = is_free p s class v ≡ true → total_of p s ≤ total_with p s class v

  abbrev free_values : List Value
  free_values = filter (is_free p s class) (domain_of p class)

  pub class_best : changed_class p s class ≡ None → AllByRecursion IsNoLower (domain_of p class)
  unfolding changed_class least_value
  class_best none =
      all_of_kept (is_free p s class) (λ v. total_of p s ≤ total_with p s class v) (domain_of p class)
      (none_below (total_with p s class) (λ v. []) (λ v. with_value s class (Some v)) (total_of p s) free_values none)

  pub best_class : AllByRecursion IsNoLower (domain_of p class) → changed_class p s class ≡ None
  unfolding changed_class least_value
  best_class all =
      below_none (total_with p s class) (λ v. []) (λ v. with_value s class (Some v)) (total_of p s) free_values
      (kept_of_all (is_free p s class) (λ v. total_of p s ≤ total_with p s class v) (domain_of p class) all)

-- a course of a student is at its best where no choice that may replace the own classes adds fewer pairs
module _ (p : Parts) (s : Snapshot) (student course : ℕ) (rest own : List ℕ) where
  abbrev added : List ℕ → ℕ
  added choice = pairs_added (beside p s student rest) choice

  abbrev IsNoFewer : List ℕ → Type 0
  IsNoFewer choice = may_replace p s student rest choice ≡ true → pairs_added (beside p s student rest) own ≤ pairs_added (beside p s student rest) choice

  student_best : replaced_by p s student course rest own ≡ None → AllByRecursion IsNoFewer (choices_at p course)
  unfolding least_replacement
  student_best none =
      all_of_kept (may_replace p s student rest) (λ choice. added own ≤ added choice) (choices_at p course)
      (none_below added (λ choice. choice) (λ choice. with_list s student (classes_in_order (rest ++ choice))) (added own) (filter (may_replace p s student rest) (choices_at p course)) none)

  best_student : AllByRecursion IsNoFewer (choices_at p course) → replaced_by p s student course rest own ≡ None
  unfolding least_replacement
  best_student all =
      below_none added (λ choice. choice) (λ choice. with_list s student (classes_in_order (rest ++ choice))) (added own) (filter (may_replace p s student rest) (choices_at p course))
      (kept_of_all (may_replace p s student rest) (λ choice. added own ≤ added choice) (choices_at p course) all)

-- two relations that agree on some numbers
module _ (f g : ℕ → ℕ → Bool) (P : ℕ → Type 0) (agree : (a b : ℕ) → P a → P b → f a b ≡ g a b) where
  count_agrees : (a : ℕ) → P a → (xs : List ℕ) → AllByRecursion P xs → count_by (f a) xs ≡ count_by (g a) xs
  count_agrees a here [] all = refl
  count_agrees a here (x ∷ xs) all =
      let first = ap {B = ℕ} (λ (b : Bool). cond b 1 0) (agree a x here all.0) in
      omega (arith, first, count_agrees a here xs all.1, sum_by-cons (λ (c : ℕ). cond (f a c) 1 0) x xs, sum_by-cons (λ (c : ℕ). cond (g a c) 1 0) x xs)

  pairs_agree : (xs : List ℕ) → AllByRecursion P xs → pairs_among f xs ≡ pairs_among g xs
  pairs_agree [] all = refl
  pairs_agree (x ∷ xs) all = omega (arith, count_agrees x all.0 xs all.1, pairs_agree xs all.1)

  across_agrees : (taken xs : List ℕ) → AllByRecursion P taken → AllByRecursion P xs → sum_by (λ c. count_by (f c) taken) xs ≡ sum_by (λ c. count_by (g c) taken) xs
  across_agrees taken [] at all = refl
  across_agrees taken (x ∷ xs) at all =
      omega (arith, count_agrees x all.0 taken at, across_agrees taken xs at all.1, sum_by-cons (λ (c : ℕ). count_by (f c) taken) x xs, sum_by-cons (λ (c : ℕ). count_by (g c) taken) x xs)

-- what is kept of a list has what all have
all_kept_of : (f : ℕ → Bool) (P : ℕ → Type 0) (xs : List ℕ) → AllByRecursion P xs → AllByRecursion P (filter f xs)
all_kept_of f P xs all = kept_of_all f P xs (all-weaken P (λ x. f x ≡ true → P x) (λ x h is. h) xs all)

-- a course of a student stays at its best where the list, the seats in the course and the conflicts of both are as they were
module _ (p : Parts) (s t : Snapshot) (student course : ℕ) (valid : IsValid p) (within : course < length p.courses) (list : list_in t student ≡ list_in s student)
    (seats : (d : ℕ) → course_of p d ≡ Some course → has_seat p t.lists student d ≡ has_seat p s.lists student d)
    (P : ℕ → Type 0) (agree : (a b : ℕ) → P a → P b → in_conflict p.travel (spots_of p s.plan) a b ≡ in_conflict p.travel (spots_of p t.plan) a b)
    (of_course : (d : ℕ) → course_of p d ≡ Some course → P d) (of_list : AllByRecursion P (list_in s student)) where
  abbrev rest : List ℕ
  rest = rest_of p course (list_in s student)

  abbrev own : List ℕ
  own = own_of p course (list_in s student)

  added_same : (choice : List ℕ) → AllByRecursion P choice → pairs_added (beside p s student rest) choice ≡ pairs_added (beside p t student rest) choice
  added_same choice all =
      let f = in_conflict p.travel (spots_of p s.plan) in
      let g = in_conflict p.travel (spots_of p t.plan) in
      omega (arith, across_agrees f g P agree rest choice (all_kept_of (λ d. not (is_of_course p course d)) P (list_in s student) of_list) all, pairs_agree f g P agree choice all)

  seats_same : (choice : List ℕ) → AllOfCourse p course choice → list_all (has_seat p t.lists student) choice ≡ list_all (has_seat p s.lists student) choice
  seats_same [] all = refl
  seats_same (c ∷ choice) all = rw (seats c all.0, seats_same choice all.1) refl

  may_same : (choice : List ℕ) → AllOfCourse p course choice → may_replace p t student rest choice ≡ may_replace p s student rest choice
  may_same choice all = ap (λ (b : Bool). is_enrolment p student (rest ++ choice) && b) (seats_same choice all)

  no_fewer : (choices : List (List ℕ)) → AllByRecursion (IsChoice p course) choices → AllByRecursion (IsNoFewer p s student course rest own) choices → AllByRecursion (IsNoFewer p t student course rest own) choices
  no_fewer [] are all = tt
  no_fewer (choice ∷ choices) are all = (one, no_fewer choices are.1 all.1)
    where
      one : IsNoFewer p t student course rest own choice
      one may =
          let mine = added_same own (all_kept_of (is_of_course p course) P (list_in s student) of_list) in
          let its = added_same choice (all-weaken (λ d. course_of p d ≡ Some course) P of_course choice are.0.of) in
          let had = all.0 (sym (may_same choice are.0.of) ∙ may) in
          omega (arith, mine, its, had)

  pub student_stays : changed_student p s student course ≡ None → changed_student p t student course ≡ None
  unfolding changed_student
  student_stays none =
      rw list
      (best_student p t student course rest own
      (no_fewer (choices_at p course) (are_choices p course valid within) (student_best p s student course rest own none)))

-- the classes of a list without one
all_apart : (c : ℕ) (xs : List ℕ) → is_listed c xs ≡ false → AllByRecursion (λ d. d ≢ c) xs
all_apart c [] e = tt
all_apart c (x ∷ xs) e = let parts = or_parts (nat_eq c x) (is_listed c xs) e in ((λ same. eqb-false c x parts.0 (sym same)), all_apart c xs parts.1)

-- a class of a course is of it
of_it : (p : Parts) (course d : ℕ) → course_of p d ≡ Some course → is_of_course p course d ≡ true
of_it p course d is = ap (λ (o : Option ℕ). option_map_or (nat_eq course) o false) is ∙ eq-eqb course course refl

-- a class that is of the course isn't one that isn't
of_other : (p : Parts) (course c d : ℕ) → is_of_course p course c ≡ false → course_of p d ≡ Some course → d ≢ c
of_other p course c d other of same = let no : true ≡ false = sym (of_it p course c (ap (course_of p) (sym same) ∙ of)) ∙ other in cc no

-- a class gets another value: a course of a student who doesn't have the class, and that isn't the class's, stays at its best
class_apart : (p : Parts) (s : Snapshot) (c : ℕ) (v : Value) (student course : ℕ) → IsValid p → course < length p.courses → meets p s c student course ≡ false → changed_student p s student course ≡ None
    → changed_student p (with_value s c (Some v)) student course ≡ None
class_apart p s c v student course valid within apart none =
    let parts = or_parts (is_listed c (list_in s student)) (is_of_course p course c) apart in
    student_stays p s (with_value s c (Some v)) student course valid within refl (λ d of. refl) (λ d. d ≢ c) agree (λ d. of_other p course c d parts.1) (all_apart c (list_in s student) parts.0) none
  where
    agree : (a b : ℕ) → a ≢ c → b ≢ c → in_conflict p.travel (spots_of p s.plan) a b ≡ in_conflict p.travel (spots_of p (slice_set s.plan c (Some v))) a b
    agree a b one two =
        let spots = spots_of p s.plan in
        let x = option_and_then (spot_at_value p c) (Some v) in
        rw (spots_of-set p s.plan c (Some v), get_or-set_other spots c a x None one, get_or-set_other spots c b x None two) refl

-- what a round made of a student's list: a choice of the course in the place of the own classes
record IsReplaced (p : Parts) (s t : Snapshot) (student course : ℕ) : Type 0 where
  choice : List ℕ
  of : AllOfCourse p course choice
  now : t ≡ with_list s student (classes_in_order (rest_of p course (list_in s student) ++ choice))

replaced_is : (p : Parts) (s t : Snapshot) (student course : ℕ) → IsValid p → IsSound p s → IsSeatedIn p s student course → changed_student p s student course ≡ Some t → IsReplaced p s t student course
unfolding changed_student
replaced_is p s t student course valid sound target is = by (least_replacement p s student course rest) refl is
  where
    rest : List ℕ
    rest = rest_of p course (list_in s student)

    less : (choice : List ℕ) → IsChoice p course choice → (b : Bool) → (if b then Some (with_list s student (classes_in_order (rest_of p course (list_in s student) ++ choice))) else None) ≡ Some t → IsReplaced p s t student course
    less choice one true e = record { choice = choice; of = one.of; now = sym (cc e) }
    less choice one false e = absurd (cc e)

    by : (o : Option (List ℕ)) → least_replacement p s student course (rest_of p course (list_in s student)) ≡ o → option_and_then (at_fewer p s student (rest_of p course (list_in s student)) (own_of p course (list_in s student))) o ≡ Some t
        → IsReplaced p s t student course
    by None e now = absurd (cc now)
    by (Some choice) e now =
        less choice (chosen_is p s student course valid sound target choice (sym (replacement_is p s student course valid sound target) ∙ e)).is
        (nat_lt (pairs_added (beside p s student (rest_of p course (list_in s student))) choice) (pairs_added (beside p s student (rest_of p course (list_in s student))) (own_of p course (list_in s student)))) now

-- a class that passes a test is among what is kept where it is in the list
kept_listed : (f : ℕ → Bool) (k : ℕ) (xs : List ℕ) → f k ≡ true → is_listed k (filter f xs) ≡ is_listed k xs
kept_listed f k [] passes = refl
kept_listed f k (x ∷ xs) passes = by (f x) (nat_eq k x) refl refl (kept_listed f k xs passes)
  where
    by : (is same : Bool) → f x ≡ is → nat_eq k x ≡ same → is_listed k (filter f xs) ≡ is_listed k xs → is_listed k (cond is (x ∷ filter f xs) (filter f xs)) ≡ (nat_eq k x || is_listed k xs)
    by true same i e rest = ap (λ (b : Bool). nat_eq k x || b) rest
    by false true i e rest = absurd (let equal : k ≡ x = eqb-true k x e in let kept : f x ≡ true = rw equal at passes in cc (kept, i))
    by false false i e rest = rw e rest

-- a class of another course is in the list where it was
other_listed : (p : Parts) (course : ℕ) (list choice : List ℕ) (d : ℕ) → AllOfCourse p course choice → is_of_course p course d ≡ false
    → is_listed d (classes_in_order (rest_of p course list ++ choice)) ≡ is_listed d list
other_listed p course list choice d of other =
    let rest = rest_of p course list in
    let none : is_listed d choice ≡ false = not_listed choice d (all-weaken (λ c. course_of p c ≡ Some course) (λ c. c ≡ d → ⊥) (λ c. of_other p course d c other) choice of) in
    has-ordered d (rest ++ choice) ∙ list_any-append (nat_eq d) rest choice ∙ rw none (no_more (is_listed d rest)) ∙ kept_listed (λ c. not (is_of_course p course c)) d list (ap not other)
  where
    no_more : (b : Bool) → (b || false) ≡ b
    no_more true = refl
    no_more false = refl

module _ (p : Parts) (s : Snapshot) (student course : ℕ) (choice : List ℕ) (of : AllOfCourse p course choice) (within : student < length s.lists) where
  abbrev new : List ℕ
  new = classes_in_order (rest_of p course (list_in s student) ++ choice)

  abbrev after : Snapshot
  after = with_list s student (classes_in_order (rest_of p course (list_in s student) ++ choice))

  -- a class of another course has as many other students
  others_same : (other d : ℕ) → student ≢ other → is_of_course p course d ≡ false → others_with (slice_set s.lists student new) other d ≡ others_with s.lists other d
  others_same other d apart out =
      let has : List ℕ → ℕ = λ list. cond (is_listed d list) 1 0 in
      let left = slice_set s.lists other [] in
      let inside : student < length left = omega (arith, within, length-set s.lists other []) in
      let swap = ap (sum_by has) (set_comm s.lists student other new [] apart) in
      let change = sum_by-set has left student new [] inside in
      let had = ap has (get_or-set_other s.lists other student [] [] apart) in
      let both = ap {B = ℕ} (λ (b : Bool). cond b 1 0) (other_listed p course (list_in s student) choice d of out) in
      omega (arith, swap, change, had, both)

  seat_same : (other d : ℕ) → student ≢ other → is_of_course p course d ≡ false → has_seat p (slice_set s.lists student new) other d ≡ has_seat p s.lists other d
  unfolding has_seat
  seat_same other d apart out = ap (λ (n : ℕ). option_map_or (nat_lt n) (limit_of p d) true) (others_same other d apart out)

  all_units : (xs : List ℕ) → AllByRecursion (λ d. Unit {0}) xs
  all_units [] = tt
  all_units (x ∷ xs) = (tt, all_units xs)

  -- another course of another student stays at its best
  student_apart : (other k : ℕ) → IsValid p → k < length p.courses → student ≢ other → nat_eq course k ≡ false → changed_student p s other k ≡ None → changed_student p after other k ≡ None
  student_apart other k valid inside apart differs none =
      student_stays p s after other k valid inside (get_or-set_other s.lists student other new [] (λ same. apart (sym same))) (λ d is. seat_same other d apart (out d is)) (λ d. Unit {0}) (λ a b one two. refl) (λ d is. tt)
      (all_units (list_in s other)) none
    where
      out : (d : ℕ) → course_of p d ≡ Some k → is_of_course p course d ≡ false
      out d is = ap (λ (o : Option ℕ). option_map_or (nat_eq course) o false) is ∙ differs

  -- a class that the student neither had nor has: its totals change by the same
  module _ (c : ℕ) (had : is_listed c (list_in s student) ≡ false) (has_now : is_listed c new ≡ false) where
    conflicts_had : ℕ
    conflicts_had = conflicts_in p.travel (spots_of p s.plan) (list_in s student)

    conflicts_now : ℕ
    conflicts_now = conflicts_in p.travel (spots_of p s.plan) new

    total_now : total_of p after + p.weights.student * conflicts_in p.travel (spots_of p s.plan) (list_in s student) ≡ total_of p s + p.weights.student * conflicts_in p.travel (spots_of p s.plan) new
    total_now =
        let spots = spots_of p s.plan in
        let change = sum_by-set (conflicts_in p.travel spots) s.lists student new [] within in
        omega (arith, weighed p.weights.student (student_conflicts p.travel spots (slice_set s.lists student new)) (student_conflicts p.travel spots s.lists) (conflicts_in p.travel spots (list_in s student)) (conflicts_in p.travel spots new) change)

    with_now : (v : Value) → total_with p after c v + p.weights.student * conflicts_in p.travel (spots_of p s.plan) (list_in s student) ≡ total_with p s c v + p.weights.student * conflicts_in p.travel (spots_of p s.plan) new
    unfolding total_with
    with_now v =
        let h = spots_of p s.plan in
        let x = option_and_then (spot_at_value p c) (Some v) in
        let spots = spots_of p (slice_set s.plan c (Some v)) in
        let is : spots ≡ slice_set h c x = spots_of-set p s.plan c (Some v) in
        let old : conflicts_in p.travel spots (list_in s student) ≡ conflicts_in p.travel h (list_in s student) = ap (λ (l : List (Option Spot)). conflicts_in p.travel l (list_in s student)) is ∙ conflicts-other p.travel h c x (list_in s student) had in
        let now : conflicts_in p.travel spots new ≡ conflicts_in p.travel h new = ap (λ (l : List (Option Spot)). conflicts_in p.travel l new) is ∙ conflicts-other p.travel h c x new has_now in
        let change = sum_by-set (conflicts_in p.travel spots) s.lists student new [] within in
        let all : student_conflicts p.travel spots (slice_set s.lists student new) + conflicts_in p.travel h (list_in s student) ≡ student_conflicts p.travel spots s.lists + conflicts_in p.travel h new = omega (arith, change, old, now) in
        omega (arith, weighed p.weights.student (student_conflicts p.travel spots (slice_set s.lists student new)) (student_conflicts p.travel spots s.lists) (conflicts_in p.travel h (list_in s student)) (conflicts_in p.travel h new) all)

    free_same : (v : Value) → is_free p after c v ≡ is_free p s c v
    unfolding conflict_set_of
    free_same v = refl

    no_lower : (v : Value) → IsNoLower p s c v → IsNoLower p after c v
    no_lower v h free =
        let before = h (sym (free_same v) ∙ free) in
        omega (arith, before, total_now, with_now v)

    list_apart : changed_class p s c ≡ None → changed_class p after c ≡ None
    list_apart none = best_class p after c (all-weaken (IsNoLower p s c) (IsNoLower p after c) no_lower (domain_of p c) (class_best p s c none))

-- the value that a round gave a class
value_is : (p : Parts) (s t : Snapshot) (c : ℕ) → changed_class p s c ≡ Some t → (v : Value) × (t ≡ with_value s c (Some v))
unfolding changed_class
value_is p s t c is = by (least_value p s c) is
  where
    less : (v : Value) (b : Bool) → (if b then Some (with_value s c (Some v)) else None) ≡ Some t → (w : Value) × (t ≡ with_value s c (Some w))
    less v true e = (v, sym (cc e))
    less v false e = absurd (cc e)

    by : (o : Option Value) → option_and_then (at_lower p s c) o ≡ Some t → (w : Value) × (t ≡ with_value s c (Some w))
    by None e = absurd (cc e)
    by (Some v) e = less v (nat_lt (total_with p s c v) (total_of p s)) e

-- a target that was found at its best stays so over a change that has nothing in common with it
pub stays_best : (p : Parts) (s t : Snapshot) (target other : Target) → IsValid p → IsSound p s → IsTargetOf p s target → IsTargetOf p s other → changed_by p s target ≡ Some t → have_in_common p t target other ≡ false → changed_by p s other ≡ None
    → changed_by p t other ≡ None
unfolding changed_by changed_class changed_student
stays_best p s t (Class c) (Class d) valid sound target other is apart none = absurd (cc apart)
stays_best p s t (Class c) (Course student course) valid sound target other is apart none =
    let value = value_is p s t c is in
    rw value.1 (class_apart p s c value.0 student course valid (within_courses p s student course valid sound other) (rw value.1 at apart) none)
stays_best p s t (Course student course) (Class c) valid sound target other is apart none =
    let new = replaced_is p s t student course valid sound target is in
    let within : student < length s.lists = omega (arith, target.within, sound.lists.whole) in
    let list = classes_in_order (rest_of p course (list_in s student) ++ new.choice) in
    let parts = or_parts (is_listed c (list_in t student)) (is_of_course p course c) apart in
    let now : is_listed c list ≡ false = ap (is_listed c) (sym (ap (λ (u : Snapshot). list_in u student) new.now ∙ get_or-set_same s.lists student list [] within)) ∙ parts.0 in
    let had : is_listed c (list_in s student) ≡ false = sym (other_listed p course (list_in s student) new.choice c new.of parts.1) ∙ now in
    rw new.now (list_apart p s student course new.choice new.of within c had now none)
stays_best p s t (Course student course) (Course other k) valid sound target second is apart none =
    let new = replaced_is p s t student course valid sound target is in
    let within : student < length s.lists = omega (arith, target.within, sound.lists.whole) in
    let parts = or_parts (nat_eq student other) (nat_eq course k) apart in
    rw new.now (student_apart p s student course new.choice new.of within other k valid (within_courses p s other k valid sound second) (eqb-false student other parts.0) parts.1 none)
