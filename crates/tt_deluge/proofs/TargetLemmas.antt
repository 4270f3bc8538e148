-- What rounds are made over: the targets of a descent, parted, without the courses of which a student has no choice.
use Rattle.std.proofs.Common.{◌≡◌, ℕ, zero, suc, ◌+◌, ◌-◌, ◌^◌, ◌<◌, ◌≤◌, Bool, true, false, cond, List, [], ◌∷◌, ◌++◌, Some, length, map, drop, take, refl, sym, ap, ◌∙◌, arith, append-nil, length-append}
use Rattle.std.specs.Prelude.{not, nat_le, nat_lt, slice_get}
use Rattle.std.specs.List.{filter, flat_map, list_all, range_with_len}
use Rattle.std.proofs.lemmas.Grind.{flat_map-append}
use Rattle.std.proofs.lemmas.List.{length-map, length-take, length-drop, take_all}
use Rattle.std.proofs.lemmas.List.Elements.{filter-append}
use Rattle.tt_problem.specs.declared.parts.CoursePart.{CoursePart}
use Rattle.tt_problem.specs.declared.parts.Span.{Span}
use Rattle.tt_problem.specs.declared.parts.Parts.{Parts}
use Rattle.tt_problem.specs.ListLengths.{span_length, spans_at}
use Rattle.tt_problem.specs.Spans.{IsSpanWithin}
use Rattle.tt_problem.specs.Valid.{IsValid}
use Rattle.tt_struct.proofs.SpanWalks.{from, next_span}
use Rattle.tt_state.specs.Snapshots.{Snapshot, list_in}
use Rattle.tt_state.specs.Sound.{IsSound}
use Rattle.tt_choice.specs.Choices.{choices_at}
use Rattle.tt_choice.specs.Pieces.{course_choices}
use Rattle.tt_choice.specs.Situations.{courses_of}
use Rattle.tt_improve.specs.Targets.{courses_with, movable_classes, targets_of, seated_courses}
use Rattle.tt_improve.specs.Standing.{IsTargetOf}
use Rattle.tt_improve.specs.declared.targets.Target.{Target}
use Rattle.tt_improve.specs.declared.targets.Target.TheVariants.{Class, Course}
use Rattle.tt_improve.proofs.TargetLemmas.{at_place, few_targets, targets_are}
use Rattle.tt_improve.proofs.StudentLemmas.{within_courses}
use Rattle.tt_deluge.specs.declared.targets.Targets.{Targets as Kept}
use Rattle.tt_deluge.specs.StudentRounds.{choices_in, is_choice}
use Rattle.tt_deluge.specs.Views.{IsCourseWithin, class_of, target_of, targets_in}
use Rattle.tt_deluge.specs.Pieces.{Targets, targets_at, has_choice}
use Rattle.tt_deluge.proofs.ChoiceLemmas.{configurations_are}
use Rattle.tt_deluge.proofs.ManyLemmas.{several-choices, single-choices, subparts-some}

module _ (p : Parts) (valid : IsValid p) (course : ℕ) (part : CoursePart) (config : Span) (is : slice_get p.courses course ≡ Some part) (within : IsSpanWithin (length p.configs) part.configs) (at : slice_get p.configs part.configs.first ≡ Some config) where
  abbrev others : List Span
  others = spans_at p.configs (from (part.configs.first + 1) part.configs.after)

  abbrev has_several : List Span → Bool
  has_several configs = nat_lt 1 (length (course_choices (map (spans_at p.subparts) configs)))

  -- a second configuration
  many : (xs : List Span) → 0 < length xs → has_several (config ∷ xs) ≡ true
  many [] some = absurd (omega arith)
  many (x ∷ xs) some = several-choices (spans_at p.subparts) config x xs (subparts-some p valid config) (subparts-some p valid x)

  single : (xs : List Span) → length xs ≡ 0 → has_several (config ∷ xs) ≡ not (list_all (λ subpart. nat_le (span_length subpart) 1) (spans_at p.subparts config))
  single [] none = single-choices (spans_at p.subparts) config (subparts-some p valid config)
  single (x ∷ xs) none = absurd (omega arith)

  parted : has_choice p course ≡ has_several (config ∷ others)
  unfolding choices_at
  parted = ap (λ (l : List (List Span)). nat_lt 1 (length (course_choices l))) (configurations_are p course part is)
      ∙ ap has_several (next_span p.configs part.configs.first part.configs.after config within.some at)

  others_long : length others ≡ part.configs.after - (part.configs.first + 1)
  others_long =
      omega (arith, length-take (part.configs.after - (part.configs.first + 1)) (drop (part.configs.first + 1) p.configs), length-drop (part.configs.first + 1) p.configs, within.within, within.some)

  -- a course with a second configuration
  pub choice_many : 1 < part.configs.after - part.configs.first → true ≡ has_choice p course
  choice_many more = sym (parted ∙ many others (omega (arith, others_long, more)))

  -- a course with one configuration
  pub choice_single : (b : Bool) → part.configs.after - part.configs.first ≤ 1 → b ≡ list_all (λ subpart. nat_le (span_length subpart) 1) (spans_at p.subparts config) → not b ≡ has_choice p course
  choice_single b few tested = ap not tested ∙ sym (parted ∙ single others (omega (arith, others_long, few)))

-- the classes among the targets
classes_among : (xs : List ℕ) → flat_map class_of (map (λ class. Class class) xs) ≡ xs
classes_among [] = refl
classes_among (x ∷ xs) = ap (λ (l : List ℕ). x ∷ l) (classes_among xs)

courses_none : (student : ℕ) (courses : List ℕ) → flat_map class_of (map (Course student) courses) ≡ []
courses_none student [] = refl
courses_none student (k ∷ courses) = courses_none student courses

student_none : (p : Parts) (student : ℕ) (list : List ℕ) → flat_map class_of (courses_with p student list) ≡ []
student_none p student [] = refl
student_none p student (c ∷ list) = courses_none student (courses_of p student)

students_none : (p : Parts) (s : Snapshot) (a n : ℕ) → flat_map class_of (flat_map (λ student. courses_with p student (list_in s student)) (range_with_len a n)) ≡ []
students_none p s a zero = refl
students_none p s a (suc n) =
    flat_map-append class_of (courses_with p a (list_in s a)) (flat_map (λ student. courses_with p student (list_in s student)) (range_with_len (a + 1) n))
    ∙ ap (λ (l : List ℕ). l ++ flat_map class_of (flat_map (λ student. courses_with p student (list_in s student)) (range_with_len (a + 1) n))) (student_none p a (list_in s a))
    ∙ students_none p s (a + 1) n

all_classes : (p : Parts) (s : Snapshot) → flat_map class_of (targets_of p s) ≡ movable_classes p s
unfolding seated_courses
all_classes p s =
    flat_map-append class_of (map (λ class. Class class) (movable_classes p s)) (seated_courses p s)
    ∙ ap (λ (l : List ℕ). l ++ flat_map class_of (seated_courses p s)) (classes_among (movable_classes p s))
    ∙ ap (λ (l : List ℕ). movable_classes p s ++ l) (students_none p s 0 (length p.students)) ∙ append-nil (movable_classes p s)

-- the courses with a choice among the targets
no_choices : (p : Parts) (xs : List ℕ) → filter (is_choice p) (map (λ class. Class class) xs) ≡ []
no_choices p [] = refl
no_choices p (x ∷ xs) = no_choices p xs

all_choices : (p : Parts) (s : Snapshot) → filter (is_choice p) (targets_of p s) ≡ choices_in p s
unfolding choices_in
all_choices p s =
    filter-append (is_choice p) (map (λ class. Class class) (movable_classes p s)) (seated_courses p s)
    ∙ ap (λ (l : List Target). l ++ filter (is_choice p) (seated_courses p s)) (no_choices p (movable_classes p s))

-- there are few of both
few_kept : (f : Target → Bool) (xs : List Target) → length (filter f xs) ≤ length xs
few_kept f [] = omega arith
few_kept f (x ∷ xs) = by (f x) (few_kept f xs)
  where
    by : (b : Bool) → length (filter f xs) ≤ length xs → length (cond b (x ∷ filter f xs) (filter f xs)) ≤ suc (length xs)
    by true few = omega arith
    by false few = omega arith

pub few_movable : (p : Parts) (s : Snapshot) → IsValid p → length (movable_classes p s) ≤ 2 ^ 32
few_movable p s valid =
    omega (arith, few_targets p s valid, length-append (map (λ class. Class class) (movable_classes p s)) (seated_courses p s), length-map (movable_classes p s) (λ (class : ℕ). Class class))

pub few_choices : (p : Parts) (s : Snapshot) → IsValid p → length (choices_in p s) ≤ 2 ^ 32
unfolding choices_in
few_choices p s valid =
    omega (arith, few_targets p s valid, few_kept (is_choice p) (seated_courses p s), length-append (map (λ class. Class class) (movable_classes p s)) (seated_courses p s))

-- each target is one of the snapshot
course_within : (p : Parts) (s : Snapshot) (target : Target) → IsValid p → IsSound p s → IsTargetOf p s target → IsCourseWithin p target
course_within p s (Class class) valid sound is = tt
course_within p s (Course student course) valid sound is = within_courses p s student course valid sound is

pub course_at : (p : Parts) (s : Snapshot) (targets : List Target) (k : ℕ) (target : Target) → IsValid p → IsSound p s → targets ≡ targets_of p s → slice_get targets k ≡ Some target → IsCourseWithin p target
course_at p s targets k target valid sound are is =
    course_within p s target valid sound (at_place (IsTargetOf p s) (targets_of p s) k target (targets_are p s) (rw are at is))

-- once all are passed
abbrev both : List ℕ → List Target → Targets
both classes choices = record { classes = classes; choices = choices }

pub classes_end : (p : Parts) (s : Snapshot) (xs : List Target) (k : ℕ) (classes : List ℕ) → xs ≡ targets_of p s → length xs ≤ k → classes ≡ flat_map class_of (take k xs) → classes ≡ movable_classes p s
classes_end p s xs k classes are past so = so ∙ ap (flat_map class_of) (take_all k xs past ∙ are) ∙ all_classes p s

pub choices_end : (p : Parts) (s : Snapshot) (xs : List Target) (k : ℕ) (choices : List Target) → xs ≡ targets_of p s → length xs ≤ k → choices ≡ filter (is_choice p) (take k xs) → choices ≡ choices_in p s
choices_end p s xs k choices are past so = so ∙ ap (filter (is_choice p)) (take_all k xs past ∙ are) ∙ all_choices p s

pub kept_are : (p : Parts) (s : Snapshot) (kept : Kept) → kept.classes.items ≡ movable_classes p s → map target_of kept.choices.items ≡ choices_in p s → targets_in kept ≡ targets_at p s
kept_are p s kept classes choices =
    ap (λ (l : List ℕ). both l (map target_of kept.choices.items)) classes ∙ ap (λ (l : List Target). both (movable_classes p s) l) choices
