-- A list of classes of a student's courses that takes each of them has no class twice.
use Rattle.std.proofs.Common.{◌≡◌, ◌∙◌, ℕ, ◌+◌, ◌-◌, ◌<◌, ◌≤◌, Bool, true, false, cond, List, [], ◌∷◌, Option, Some, None, ◌⊎◌, length, get_or, zero, suc, refl, sym, ap, arith, inl, inr}
use Rattle.std.specs.Prelude.{◌&&◌, ◌||◌, ◌==◌, slice_get}
use Rattle.std.specs.List.{list_all}
use Rattle.std.specs.Option.{option_map_or}
use Rattle.std.proofs.lemmas.Bool.{cases_Bool, and_parts, or_cases, eqb-true}
use Rattle.std.proofs.lemmas.List.{length-map, get_or-map}
use Rattle.std.proofs.lemmas.List.Sums.{sum_by-cons}
use Rattle.std.proofs.lemmas.List.Quantifiers.{position-Some}
use Rattle.std.proofs.lemmas.Option.{option_and_then_some, slice_get-get_or}
use Rattle.tt_base.specs.Lists.{is_listed}
use Rattle.tt_problem.specs.declared.parts.Span.{Span}
use Rattle.tt_problem.specs.declared.parts.CoursePart.{CoursePart}
use Rattle.tt_problem.specs.declared.parts.StudentPart.{StudentPart}
use Rattle.tt_problem.specs.declared.parts.Parts.{Parts}
use Rattle.tt_problem.specs.Spans.{is_in, span_with}
use Rattle.tt_problem.specs.Valid.{course_spans}
use Rattle.tt_problem.specs.Places.{subpart_of, config_of, course_of}
use Rattle.tt_problem.specs.ListLengths.{spans_at}
use Rattle.tt_struct.proofs.SpanWalks.{place_in}
use Rattle.tt_struct.proofs.LengthLemmas.{any_le, count-cons, no_span, no_course}
use Rattle.tt_struct.specs.Enrolments.{has_no_repeat, has_count, count_in, fills, avoids, takes_one, takes_course, takes, is_of_courses, has_parent, is_enrolment_of}

all_at : (f : Span → Bool) (spans : List Span) (i : ℕ) (d : Span) → list_all f spans ≡ true → i < length spans → f (get_or spans i d) ≡ true
all_at f [] i d all lt = absurd (omega arith)
all_at f (s ∷ spans) zero d all lt = (and_parts (f s) (list_all f spans) all).0
all_at f (s ∷ spans) (suc i) d all lt = all_at f spans i d (and_parts (f s) (list_all f spans) all).1 (omega arith)

-- each configuration of a course that is taken is filled or avoided
one_or_none : (p : Parts) (list : List ℕ) (configs : List Span) (i : ℕ) (d : Span) → takes_one p list configs ≡ true → i < length configs → (fills p list (get_or configs i d) ≡ true) ⊎ (avoids p list (get_or configs i d) ≡ true)
one_or_none p list [] i d e lt = absurd (omega arith)
one_or_none p list (c ∷ configs) zero d e lt = elim (or_cases (fills p list c && list_all (avoids p list) configs) (avoids p list c && takes_one p list configs) e) [
  | inl one ↦ inl (and_parts (fills p list c) (list_all (avoids p list) configs) one).0
  | inr later ↦ inr (and_parts (avoids p list c) (takes_one p list configs) later).0
]
one_or_none p list (c ∷ configs) (suc i) d e lt = elim (or_cases (fills p list c && list_all (avoids p list) configs) (avoids p list c && takes_one p list configs) e) [
  | inl one ↦ inr (all_at (avoids p list) configs i d (and_parts (fills p list c) (list_all (avoids p list) configs) one).1 (omega arith))
  | inr later ↦ one_or_none p list configs i d (and_parts (avoids p list c) (takes_one p list configs) later).1 (omega arith)
]

-- so a subpart of it has at most one class of the list
at_most_one : (p : Parts) (list : List ℕ) (config : Span) (m : ℕ) → is_in m config ≡ true → m < length p.subparts → (fills p list config ≡ true) ⊎ (avoids p list config ≡ true) → count_in list (get_or p.subparts m no_span) ≤ 1
unfolding fills avoids
at_most_one p list config m is within either =
    let at = place_in p.subparts config m no_span is within in
    let spans = spans_at p.subparts config in
    let same = ap (count_in list) at.1 in
    let here = get_or spans (m - config.first) no_span in
    elim either [
      | inl filled ↦ omega (arith, same, eqb-true (count_in list here) 1 (all_at (has_count 1 list) spans (m - config.first) no_span filled at.0))
      | inr none ↦ omega (arith, same, eqb-true (count_in list here) 0 (all_at (has_count 0 list) spans (m - config.first) no_span none at.0))
    ]

-- a class's subpart, of which a list has at most one class
record IsOnce (p : Parts) (list : List ℕ) (class : ℕ) : Type 0 where
  subpart : Span
  has : is_in class subpart ≡ true
  once : count_in list subpart ≤ 1

once_there : (p : Parts) (list : List ℕ) (a m k c : ℕ) → takes p list c ≡ true → subpart_of p a ≡ Some m → span_with p.configs m ≡ Some k → span_with (course_spans p) k ≡ Some c → IsOnce p list a
unfolding takes takes_course
once_there p list a m k c taken of_subpart of_config of_course =
    let sub = position-Some (is_in a) p.subparts m no_span of_subpart in
    let conf = position-Some (is_in m) p.configs k no_span of_config in
    let cour = position-Some (is_in k) (course_spans p) c no_course.configs of_course in
    let within : c < length p.courses = omega (arith, cour.0, length-map p.courses (λ (x : CoursePart). x.configs)) in
    let course = get_or p.courses c no_course in
    let span_is : get_or (course_spans p) c no_course.configs ≡ course.configs = get_or-map (λ (x : CoursePart). x.configs) p.courses c no_course no_course.configs within in
    let has_config : is_in k course.configs ≡ true = rw span_is at cour.1 in
    let takes_it : takes_course p list course ≡ true = rw (slice_get-get_or p.courses c no_course within) at taken in
    let at = place_in p.configs course.configs k no_span has_config conf.0 in
    let either = one_or_none p list (spans_at p.configs course.configs) (k - course.configs.first) no_span takes_it at.0 in
    record {
      subpart = get_or p.subparts m no_span;
      has = sub.1;
      once = at_most_one p list (get_or p.configs k no_span) m conf.1 sub.0 (rw at.1 at either);
    }

listed_at : (f : ℕ → Bool) (list : List ℕ) (c : ℕ) → list_all f list ≡ true → is_listed c list ≡ true → f c ≡ true
listed_at f [] c all e = absurd (cc e)
listed_at f (x ∷ list) c all e =
    let parts = and_parts (f x) (list_all f list) all in
    elim (or_cases (c == x) (is_listed c list) e) [
      | inl here ↦ ap f (eqb-true c x here) ∙ parts.0
      | inr later ↦ listed_at f list c parts.1 later
    ]

once_by : (p : Parts) (list : List ℕ) (a : ℕ) (courses : List ℕ) (o : Option ℕ) → list_all (takes p list) courses ≡ true → course_of p a ≡ o → option_map_or (λ course. is_listed course courses) o false ≡ true → IsOnce p list a
once_by p list a courses None all of e = absurd (cc e)
once_by p list a courses (Some c) all of e =
    option_and_then_some (span_with (course_spans p)) (config_of p a) c of (λ k of_k of_course.
    option_and_then_some (span_with p.configs) (subpart_of p a) k of_k (λ m of_m of_config. once_there p list a m k c (listed_at (takes p list) courses c all e) of_m of_config of_course))

once_of : (p : Parts) (s : StudentPart) (list : List ℕ) (a : ℕ) → list_all (takes p list) s.courses ≡ true → is_of_courses p s a ≡ true → IsOnce p list a
unfolding is_of_courses
once_of p s list a all e = once_by p list a s.courses (course_of p a) all refl e

-- a class is of one of the courses where its own course is
pub listed_of : (p : Parts) (s : StudentPart) (a c : ℕ) → course_of p a ≡ Some c → is_of_courses p s a ≡ is_listed c s.courses
unfolding is_of_courses
listed_of p s a c of = ap (λ o. option_map_or (λ course. is_listed course s.courses) o false) of

-- a class that comes again is counted twice
counted_twice : (a : ℕ) (list : List ℕ) (s : Span) → is_in a s ≡ true → is_listed a list ≡ true → 2 ≤ count_in (a ∷ list) s
counted_twice a list s is listed =
    let one : ℕ → ℕ = λ x. cond (is_in x s) 1 0 in
    let own : one a ≡ 1 = ap {B = ℕ} (λ (b : Bool). cond b 1 0) is in
    let again : one a ≤ count_in list s = any_le one list a listed in
    omega (arith, own, again, sum_by-cons one a list)

no_repeat : (p : Parts) (s : StudentPart) (whole list : List ℕ) → list_all (takes p whole) s.courses ≡ true → ((d : Span) → count_in list d ≤ count_in whole d) → list_all (is_of_courses p s) list ≡ true → has_no_repeat list ≡ true
no_repeat p s whole [] taken part of = refl
no_repeat p s whole (a ∷ list) taken part of =
    let parts = and_parts (is_of_courses p s a) (list_all (is_of_courses p s) list) of in
    elim (cases_Bool (is_listed a list)) [
      | inl listed ↦
          let once = once_of p s whole a taken parts.0 in
          absurd (omega (arith, counted_twice a list once.subpart once.has listed, part once.subpart, once.once))
      | inr not_listed ↦ rw not_listed (no_repeat p s whole list taken (λ d. omega (arith, part d, count-cons a list d)) parts.1)
    ]

spared : (n a b c : Bool) → (a ≡ true → b ≡ true → n ≡ true) → (n && a && b && c) ≡ (a && b && c)
spared true a b c given = refl
spared false true true c given = absurd (cc (given refl refl))
spared false true false c given = refl
spared false false b c given = refl

-- a valid enrolment, without a look for a class that comes twice
pub without_repeat : (p : Parts) (s : StudentPart) (list : List ℕ)
    → is_enrolment_of p s list ≡ (list_all (is_of_courses p s) list && list_all (takes p list) s.courses && list_all (has_parent p list) list)
unfolding is_enrolment_of
without_repeat p s list =
    spared (has_no_repeat list) (list_all (is_of_courses p s) list) (list_all (takes p list) s.courses) (list_all (has_parent p list) list)
    (λ of taken. no_repeat p s list list taken (λ d. omega arith) of)
