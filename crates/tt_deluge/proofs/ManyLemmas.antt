-- How many choices a course has: more than one, unless it has one configuration and each subpart of it one class.
use Rattle.std.proofs.Common.{◌≡◌, ℕ, zero, suc, ◌+◌, ◌-◌, ◌<◌, Bool, true, false, List, [], ◌∷◌, ◌++◌, length, map, refl, sym, ap, ◌∙◌, arith, nat_lt, length-append}
use Rattle.std.specs.Prelude.{◌&&◌, not, nat_le}
use Rattle.std.specs.List.{AllByRecursion, list_all, range_with_len}
use Rattle.std.proofs.lemmas.Bool.Decides.{nat_tests}
use Rattle.std.proofs.lemmas.List.{length-map}
use Rattle.tt_problem.specs.declared.parts.Parts.{Parts}
use Rattle.tt_problem.specs.declared.parts.Span.{Span}
use Rattle.tt_problem.specs.ListLengths.{span_length, spans_at}
use Rattle.tt_problem.specs.Spans.{CoversFrom}
use Rattle.tt_problem.specs.Valid.{IsValid}
use Rattle.tt_choice.specs.Choices.{choices_of}
use Rattle.tt_choice.specs.Pieces.{course_choices, each_before}
use Rattle.tt_choice.proofs.ChoiceLemmas.{all-drop, all-take}

-- none of the spans is empty
abbrev pub AreSome : List Span → Type 0
AreSome spans = AllByRecursion (λ s. s.first < s.after) spans

several : (n : ℕ) → 1 < n → nat_lt 1 n ≡ true
several n h = grind (arith, nat_tests)

-- one more class before each of the choices
one_more : (c : ℕ) (classes : List ℕ) (choices : List (List ℕ)) → length (each_before (c ∷ classes) choices) ≡ length choices + length (each_before classes choices)
one_more c classes choices = length-append (map (λ choice. c ∷ choice) choices) (each_before classes choices) ∙ ap (λ (n : ℕ). n + length (each_before classes choices)) (length-map choices (λ (choice : List ℕ). c ∷ choice))

-- the choices of some subparts
pub choices-some : (spans : List Span) → AreSome spans → 0 < length (choices_of spans)
choices-some [] some = omega arith
choices-some (t ∷ rest) some = by (t.after - t.first) (omega (arith, some.0)) (choices-some rest some.1)
  where
    by : (n : ℕ) → 0 < n → 0 < length (choices_of rest) → 0 < length (each_before (range_with_len t.first n) (choices_of rest))
    by zero lt more = absurd (omega arith)
    by (suc n) lt more = omega (arith, more, one_more t.first (range_with_len (t.first + 1) n) (choices_of rest))

pub choices-many : (spans : List Span) → AreSome spans → nat_lt 1 (length (choices_of spans)) ≡ not (list_all (λ subpart. nat_le (span_length subpart) 1) spans)
choices-many [] some = refl
choices-many (t ∷ rest) some = by (t.after - t.first) (omega (arith, some.0)) (choices-some rest some.1) (choices-many rest some.1)
  where
    tested : Bool
    tested = list_all (λ subpart. nat_le (span_length subpart) 1) rest

    high : (n : ℕ) → nat_le (suc (suc n)) 1 ≡ false
    high n = grind (arith, nat_tests)

    by : (n : ℕ) → 0 < n → 0 < length (choices_of rest) → nat_lt 1 (length (choices_of rest)) ≡ not tested → nat_lt 1 (length (each_before (range_with_len t.first n) (choices_of rest))) ≡ not (nat_le n 1 && tested)
    by zero lt more same = absurd (omega arith)
    by (suc zero) lt more same =
        let long : length (each_before (t.first ∷ []) (choices_of rest)) ≡ length (choices_of rest) = omega (arith, one_more t.first [] (choices_of rest)) in
        ap (nat_lt 1) long ∙ same
    by (suc (suc n)) lt more same =
        let one = one_more t.first (range_with_len (t.first + 1) (suc n)) (choices_of rest) in
        let two = one_more (t.first + 1) (range_with_len (t.first + 1 + 1) n) (choices_of rest) in
        several (length (each_before (range_with_len t.first (suc (suc n))) (choices_of rest))) (omega (arith, more, one, two))
        ∙ sym (ap (λ (b : Bool). not (b && tested)) (high n))

-- the subparts of a problem
some_from : (spans : List Span) (first after : ℕ) → CoversFrom first spans after → AreSome spans
some_from [] first after h = tt
some_from (s ∷ spans) first after h = (h.1, some_from spans s.after after h.2)

pub subparts-some : (p : Parts) → IsValid p → (config : Span) → AreSome (spans_at p.subparts config)
subparts-some p valid config =
    all-take (λ s. s.first < s.after) (span_length config) _ (all-drop (λ s. s.first < s.after) config.first p.subparts (some_from p.subparts 0 (length p.classes) valid.subparts))

-- the choices of one configuration, and of more
pub single-choices : (f : Span → List Span) (config : Span) → AreSome (f config) → nat_lt 1 (length (course_choices (map f (config ∷ [])))) ≡ not (list_all (λ subpart. nat_le (span_length subpart) 1) (f config))
single-choices f config some =
    let long : length (course_choices (map f (config ∷ []))) ≡ length (choices_of (f config)) = omega (arith, length-append (choices_of (f config)) []) in
    ap (nat_lt 1) long ∙ choices-many (f config) some

pub several-choices : (f : Span → List Span) (one two : Span) (configs : List Span) → AreSome (f one) → AreSome (f two) → nat_lt 1 (length (course_choices (map f (one ∷ two ∷ configs)))) ≡ true
several-choices f one two configs first second =
    let rest = course_choices (map f configs) in
    several (length (course_choices (map f (one ∷ two ∷ configs))))
    (omega (arith, choices-some (f one) first, choices-some (f two) second, length-append (choices_of (f one)) (choices_of (f two) ++ rest), length-append (choices_of (f two)) rest))
