-- The targets of a snapshot: each is one of it, and a round leaves them as they are.
use Rattle.std.proofs.Common.{◌≡◌, ℕ, ◌+◌, ◌-◌, ◌*◌, ◌^◌, ◌<◌, ◌≤◌, Bool, true, false, cond, List, [], ◌∷◌, ◌++◌, Option, Some, None, length, map, get_or, zero, suc, refl, sym, ap, ◌∙◌, arith, inl, inr, length-append, append_assoc, append-nil}
use Rattle.std.specs.Prelude.{◌||◌, ◌&&◌, not, slice_get, is_some, nat_eq}
use Rattle.std.specs.List.{AllByRecursion, filter, flat_map, range_with_len}
use Rattle.std.specs.Option.{option_map_or}
use Rattle.std.proofs.Math.Path.{fun_ext}
use Rattle.std.proofs.lemmas.Bool.{and_parts, cases_eq, eq-eqb}
use Rattle.std.proofs.lemmas.List.{length-map, get_or-set_same, get_or-set_other}
use Rattle.tt_base.specs.Lists.{is_listed}
use Rattle.tt_bits.specs.declared.times.Value.{Value}
use Rattle.tt_problem.specs.declared.parts.StudentPart.{StudentPart}
use Rattle.tt_problem.specs.declared.parts.Parts.{Parts}
use Rattle.tt_problem.specs.Valid.{IsValid, IsValidStudent}
use Rattle.tt_state.specs.Snapshots.{Snapshot, is_locked_in, list_in, may_lock, value_in, with_list, with_value}
use Rattle.tt_choice.specs.Situations.{courses_of}
use Rattle.tt_choice.proofs.Order.{all-append}
use Rattle.tt_improve.specs.declared.targets.Target.{Target}
use Rattle.tt_improve.specs.declared.targets.Target.TheVariants.{Class, Course}
use Rattle.tt_improve.specs.Targets.{courses_with, movable_classes, targets_of, seated_courses}
use Rattle.tt_improve.specs.Standing.{IsMovable, IsTargetOf}

-- what all of a list have, each has
pub at_place : {A : Type 0} (P : A → Type 0) (xs : List A) (k : ℕ) (x : A) → AllByRecursion P xs → slice_get xs k ≡ Some x → P x
at_place P [] k x all is = absurd (cc is)
at_place P (y ∷ xs) zero x all is = let e : y ≡ x = cc is in rw (← e) all.0
at_place P (y ∷ xs) (suc k) x all is = at_place P xs k x all.1 is

module _ (p : Parts) (s : Snapshot) where
  -- the placed classes that aren't locked
  classes_are : (a n : ℕ) → a + n ≤ length p.classes → AllByRecursion (IsTargetOf p s) (map (λ class. Class class) (filter (may_lock s) (range_with_len a n)))
  classes_are a zero within = tt
  classes_are a (suc n) within = by (may_lock s a) refl (classes_are (a + 1) n (omega arith))
    where
      by : (b : Bool) → may_lock s a ≡ b → AllByRecursion (IsTargetOf p s) (map (λ class. Class class) (filter (may_lock s) (range_with_len (a + 1) n)))
          → AllByRecursion (IsTargetOf p s) (map (λ class. Class class) (cond b (a ∷ filter (may_lock s) (range_with_len (a + 1) n)) (filter (may_lock s) (range_with_len (a + 1) n))))
      by true e rest = (record { within = omega arith; free = e }, rest)
      by false e rest = rest

  or_first : (a : ℕ) (b : Bool) → (nat_eq a a || b) ≡ true
  or_first a b = rw (eq-eqb a a refl) refl

  or_later : (a b : Bool) → b ≡ true → (a || b) ≡ true
  or_later true b e = refl
  or_later false b e = e

  -- the courses of a student who has classes
  courses_are : (student : ℕ) → student < length p.students → 0 < length (list_in s student) → (courses : List ℕ) → ((k : ℕ) → is_listed k courses ≡ true → is_listed k (courses_of p student) ≡ true)
      → AllByRecursion (IsTargetOf p s) (map (Course student) courses)
  courses_are student within some [] listed = tt
  courses_are student within some (k ∷ courses) listed =
      (record { within = within; some = some; listed = listed k (or_first k (is_listed k courses)) }, courses_are student within some courses (λ j e. listed j (or_later (nat_eq j k) (is_listed j courses) e)))

  student_are : (student : ℕ) (list : List ℕ) → student < length p.students → list_in s student ≡ list → AllByRecursion (IsTargetOf p s) (courses_with p student list)
  student_are student [] within is = tt
  student_are student (c ∷ list) within is =
      let some : 0 < length (list_in s student) = omega (arith, ap length is) in
      courses_are student within some (courses_of p student) (λ k e. e)

  students_are : (a n : ℕ) → a + n ≤ length p.students → AllByRecursion (IsTargetOf p s) (flat_map (λ student. courses_with p student (list_in s student)) (range_with_len a n))
  students_are a zero within = tt
  students_are a (suc n) within =
      all-append (IsTargetOf p s) (courses_with p a (list_in s a)) (flat_map (λ student. courses_with p student (list_in s student)) (range_with_len (a + 1) n))
      (student_are a (list_in s a) (omega arith) refl) (students_are (a + 1) n (omega arith))

  -- each target is one of the snapshot
  pub targets_are : AllByRecursion (IsTargetOf p s) (targets_of p s)
  unfolding movable_classes seated_courses
  targets_are = all-append (IsTargetOf p s) (map (λ class. Class class) (movable_classes p s)) (seated_courses p s) (classes_are 0 (length p.classes) (omega arith)) (students_are 0 (length p.students) (omega arith))

  movable_of : (xs : List ℕ) → AllByRecursion (IsTargetOf p s) (map (λ class. Class class) xs) → AllByRecursion (IsMovable p s) xs
  movable_of [] h = tt
  movable_of (class ∷ xs) h = (h.0, movable_of xs h.1)

  -- each of the placed classes that aren't locked may be moved
  pub movable_are : AllByRecursion (IsMovable p s) (movable_classes p s)
  unfolding movable_classes
  movable_are = movable_of (filter (may_lock s) (range_with_len 0 (length p.classes))) (classes_are 0 (length p.classes) (omega arith))

  -- each of the courses of students who have classes is such a course
  pub seated_are : AllByRecursion (IsTargetOf p s) (seated_courses p s)
  unfolding seated_courses
  seated_are = students_are 0 (length p.students) (omega arith)

-- a target that is drawn is one of the snapshot
pub drawn-of : (p : Parts) (s : Snapshot) (targets : List Target) (k : ℕ) (target : Target) → targets_of p s ≡ targets → slice_get targets k ≡ Some target → IsTargetOf p s target
drawn-of p s targets k target same is = at_place (IsTargetOf p s) (targets_of p s) k target (targets_are p s) (rw same is)

-- a class that moves leaves the targets as they are
placed-same : (s : Snapshot) (class : ℕ) (v : Value) → is_some (value_in s class) ≡ true → (d : ℕ) → is_some (value_in (with_value s class (Some v)) d) ≡ is_some (value_in s d)
placed-same s class v placed d =
    elim (cases_eq d class) [
      | inl same ↦ rw same (ap is_some (get_or-set_same s.plan class (Some v) None (within s.plan class placed)) ∙ sym placed)
      | inr other ↦ ap is_some (get_or-set_other s.plan class d (Some v) None other)
    ]
  where
    within : (plan : List (Option Value)) (c : ℕ) → is_some (get_or plan c None) ≡ true → c < length plan
    within [] c e = absurd (cc e)
    within (o ∷ plan) zero e = omega arith
    within (o ∷ plan) (suc c) e = omega (arith, within plan c e)

pub changed-class_movable : (p : Parts) (s : Snapshot) (class : ℕ) (v : Value) → may_lock s class ≡ true → movable_classes p (with_value s class (Some v)) ≡ movable_classes p s
unfolding movable_classes
changed-class_movable p s class v free =
    let placed = (and_parts (is_some (value_in s class)) (not (is_locked_in s class)) free).0 in
    ap (λ (test : ℕ → Bool). filter test (range_with_len 0 (length p.classes))) (fun_ext (λ (d : ℕ). ap (λ (b : Bool). b && not (is_locked_in s d)) (placed-same s class v placed d)))

pub changed-class_targets : (p : Parts) (s : Snapshot) (class : ℕ) (v : Value) → may_lock s class ≡ true → targets_of p (with_value s class (Some v)) ≡ targets_of p s
unfolding seated_courses
changed-class_targets p s class v free = ap (λ (classes : List ℕ). map (λ class. Class class) classes ++ seated_courses p s) (changed-class_movable p s class v free)

-- a student who gets other classes leaves the targets as they are
with-same : (p : Parts) (student : ℕ) (one two : List ℕ) → 0 < length one → 0 < length two → courses_with p student one ≡ courses_with p student two
with-same p student [] two some other = absurd (omega arith)
with-same p student (a ∷ one) [] some other = absurd (omega arith)
with-same p student (a ∷ one) (b ∷ two) some other = refl

seated-same : (p : Parts) (s : Snapshot) (student : ℕ) (list : List ℕ) → student < length s.lists → 0 < length (list_in s student) → 0 < length list
    → (d : ℕ) → courses_with p d (list_in (with_list s student list) d) ≡ courses_with p d (list_in s d)
seated-same p s student list within some other d =
    elim (cases_eq d student) [
      | inl same ↦ rw same (ap (courses_with p student) (get_or-set_same s.lists student list [] within) ∙ with-same p student list (list_in s student) other some)
      | inr apart ↦ ap (courses_with p d) (get_or-set_other s.lists student d list [] apart)
    ]

pub changed-student_courses : (p : Parts) (s : Snapshot) (student : ℕ) (list : List ℕ) → student < length s.lists → 0 < length (list_in s student) → 0 < length list → seated_courses p (with_list s student list) ≡ seated_courses p s
unfolding seated_courses
changed-student_courses p s student list within some other =
    ap (λ (each : ℕ → List Target). flat_map each (range_with_len 0 (length p.students))) (fun_ext (seated-same p s student list within some other))

pub changed-student_targets : (p : Parts) (s : Snapshot) (student : ℕ) (list : List ℕ) → student < length s.lists → 0 < length (list_in s student) → 0 < length list → targets_of p (with_list s student list) ≡ targets_of p s
unfolding movable_classes
changed-student_targets p s student list within some other =
    ap (λ (courses : List Target). map (λ class. Class class) (movable_classes p s) ++ courses) (changed-student_courses p s student list within some other)

-- there are few targets
few_classes : (f : ℕ → Bool) (a n : ℕ) → length (filter f (range_with_len a n)) ≤ n
few_classes f a zero = omega arith
few_classes f a (suc n) = by (f a) (few_classes f (a + 1) n)
  where
    by : (b : Bool) → length (filter f (range_with_len (a + 1) n)) ≤ n → length (cond b (a ∷ filter f (range_with_len (a + 1) n)) (filter f (range_with_len (a + 1) n))) ≤ suc n
    by true few = omega arith
    by false few = omega arith

few_courses : (p : Parts) (student : ℕ) (list : List ℕ) → length (courses_of p student) ≤ 40 → length (courses_with p student list) ≤ 40
few_courses p student [] few = omega arith
few_courses p student (c ∷ list) few = omega (arith, length-map (courses_of p student) (Course student))

few_of : (p : Parts) → IsValid p → (student : ℕ) → length (courses_of p student) ≤ 40
few_of p valid student = by (slice_get p.students student) refl
  where
    by : (o : Option StudentPart) → slice_get p.students student ≡ o → length (option_map_or (λ s. s.courses) o []) ≤ 40
    by None is = omega arith
    by (Some part) is = (at_student p.students student part is (λ k d lt. valid.students k d lt)).few
      where
        at_student : (students : List StudentPart) (k : ℕ) (part : StudentPart) → slice_get students k ≡ Some part → ((j : ℕ) (d : StudentPart) → j < length students → IsValidStudent p (get_or students j d)) → IsValidStudent p part
        at_student [] k part is all = absurd (cc is)
        at_student (x ∷ students) zero part is all = let e : x ≡ part = cc is in rw (← e) (all 0 x (omega arith))
        at_student (x ∷ students) (suc k) part is all = at_student students k part is (λ j d lt. all (suc j) d (omega arith))

few_students : (p : Parts) (s : Snapshot) → IsValid p → (a n : ℕ) → length (flat_map (λ student. courses_with p student (list_in s student)) (range_with_len a n)) ≤ n * 40
few_students p s valid a zero = omega arith
few_students p s valid a (suc n) =
    omega (
      arith,
      few_students p s valid (a + 1) n,
      few_courses p a (list_in s a) (few_of p valid a),
      length-append (courses_with p a (list_in s a)) (flat_map (λ student. courses_with p student (list_in s student)) (range_with_len (a + 1) n)),
    )

pub few_targets : (p : Parts) (s : Snapshot) → IsValid p → length (targets_of p s) ≤ 2 ^ 32
unfolding movable_classes seated_courses
few_targets p s valid =
    omega (
      arith,
      few_classes (may_lock s) 0 (length p.classes),
      few_students p s valid 0 (length p.students),
      valid.few_classes,
      valid.few_students,
      length-map (movable_classes p s) (λ class. Class class),
      length-append (map (λ class. Class class) (movable_classes p s)) (seated_courses p s),
    )

-- the list of targets while it is made: one class more
next_of_range : (f : ℕ → Bool) (a b : ℕ) → a < b → filter f (range_with_len a (b - a)) ≡ cond (f a) (a ∷ filter f (range_with_len (a + 1) (b - (a + 1)))) (filter f (range_with_len (a + 1) (b - (a + 1))))
next_of_range f a b below = let e : b - a ≡ suc (b - (a + 1)) = omega arith in rw e refl

pub add_class : (f : ℕ → Bool) (a b : ℕ) (xs all : List Target) → a < b → f a ≡ true → xs ++ map (λ class. Class class) (filter f (range_with_len a (b - a))) ≡ all
    → (xs ++ Class a ∷ []) ++ map (λ class. Class class) (filter f (range_with_len (a + 1) (b - (a + 1)))) ≡ all
add_class f a b xs all below passes so_far =
    let next = rw passes at (next_of_range f a b below) in
    append_assoc xs (Class a ∷ []) (map (λ class. Class class) (filter f (range_with_len (a + 1) (b - (a + 1)))))
    ∙ ap (λ (ys : List ℕ). xs ++ map (λ class. Class class) ys) (sym next) ∙ so_far

pub skip_class : (f : ℕ → Bool) (a b : ℕ) (xs all : List Target) → a < b → f a ≡ false → xs ++ map (λ class. Class class) (filter f (range_with_len a (b - a))) ≡ all
    → xs ++ map (λ class. Class class) (filter f (range_with_len (a + 1) (b - (a + 1)))) ≡ all
skip_class f a b xs all below fails so_far =
    let next = rw fails at (next_of_range f a b below) in
    ap (λ (ys : List ℕ). xs ++ map (λ class. Class class) ys) (sym next) ∙ so_far

-- all classes
pub start_classes : (p : Parts) (s : Snapshot) (xs : List Target) → xs ++ map (λ class. Class class) (filter (may_lock s) (range_with_len 0 (length p.classes - 0))) ≡ xs ++ map (λ class. Class class) (movable_classes p s)
unfolding movable_classes
start_classes p s xs = let whole : length p.classes - 0 ≡ length p.classes = omega arith in ap (λ (n : ℕ). xs ++ map (λ class. Class class) (filter (may_lock s) (range_with_len 0 n))) whole

pub end_classes : (f : ℕ → Bool) (a b : ℕ) (xs all : List Target) → b ≤ a → xs ++ map (λ class. Class class) (filter f (range_with_len a (b - a))) ≡ all → xs ≡ all
end_classes f a b xs all past so_far =
    let none : b - a ≡ 0 = omega arith in
    sym (append-nil xs) ∙ ap (λ (n : ℕ). xs ++ map (λ class. Class class) (filter f (range_with_len a n))) (sym none) ∙ so_far

-- one student more
pub add_student : (each : ℕ → List Target) (a b : ℕ) (xs now all : List Target) → a < b → now ≡ xs ++ each a → xs ++ flat_map each (range_with_len a (b - a)) ≡ all → now ++ flat_map each (range_with_len (a + 1) (b - (a + 1))) ≡ all
add_student each a b xs now all below is so_far =
    let more : b - a ≡ suc (b - (a + 1)) = omega arith in
    ap (λ (ys : List Target). ys ++ flat_map each (range_with_len (a + 1) (b - (a + 1)))) is
    ∙ append_assoc xs (each a) (flat_map each (range_with_len (a + 1) (b - (a + 1))))
    ∙ ap (λ (n : ℕ). xs ++ flat_map each (range_with_len a n)) (sym more) ∙ so_far

pub start_students : (p : Parts) (s : Snapshot) (xs : List Target) → xs ++ flat_map (λ student. courses_with p student (list_in s student)) (range_with_len 0 (length p.students - 0)) ≡ xs ++ seated_courses p s
unfolding seated_courses
start_students p s xs = let whole : length p.students - 0 ≡ length p.students = omega arith in ap (λ (n : ℕ). xs ++ flat_map (λ student. courses_with p student (list_in s student)) (range_with_len 0 n)) whole

pub end_students : (each : ℕ → List Target) (a b : ℕ) (xs all : List Target) → b ≤ a → xs ++ flat_map each (range_with_len a (b - a)) ≡ all → xs ≡ all
end_students each a b xs all past so_far =
    let none : b - a ≡ 0 = omega arith in
    sym (append-nil xs) ∙ ap (λ (n : ℕ). xs ++ flat_map each (range_with_len a n)) (sym none) ∙ so_far

-- the courses of a student who has classes, or none
pub no_courses : (p : Parts) (student : ℕ) (list : List ℕ) (xs : List Target) → list ≡ [] → xs ≡ xs ++ courses_with p student list
no_courses p student list xs none = rw none (sym (append-nil xs))

pub some_courses : (p : Parts) (student : ℕ) (list courses : List ℕ) → (list ≡ [] → ⊥) → courses ≡ courses_of p student → map (Course student) courses ≡ courses_with p student list
some_courses p student [] courses some is = absurd (some refl)
some_courses p student (c ∷ list) courses some is = ap (map (Course student)) is
