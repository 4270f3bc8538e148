-- A list takes one configuration of a course, told by the configurations that its classes are of.
use Rattle.std.proofs.Common.{◌≡◌, ◌∙◌, ℕ, ◌+◌, ◌-◌, ◌<◌, ◌≤◌, Bool, true, false, cond, List, [], ◌∷◌, Option, Some, None, length, get_or, drop, sum_by, zero, suc, refl, sym, ap, arith, inl, inr}
use Rattle.std.specs.Prelude.{◌&&◌, ◌||◌, ◌==◌, ◌≢◌, nat_lt, slice_get, unwrap_or, if◌then◌else◌}
use Rattle.std.specs.List.{list_all, position_or_len}
use Rattle.std.specs.Option.{option_and_then, option_or}
use Rattle.std.proofs.lemmas.Bool.{cases_Bool, eqb-true, eqb-false, eq-eqb, lt-ltb, and_parts, and_left, and_right, false_from_ne_true}
use Rattle.std.proofs.lemmas.List.{length-take, length-drop}
use Rattle.std.proofs.lemmas.List.Folds.{list_all_at, sum_by-zero}
use Rattle.std.proofs.lemmas.List.Sums.{sum_by-cons, get_or-le-sum_by, position_or_len_is}
use Rattle.std.proofs.lemmas.List.Quantifiers.{position-Some}
use Rattle.std.proofs.lemmas.Option.{option_and_then_some, get_or_from_slice_get}
use Rattle.tt_problem.specs.declared.parts.Span.{Span}
use Rattle.tt_problem.specs.declared.parts.CoursePart.{CoursePart}
use Rattle.tt_problem.specs.declared.parts.Parts.{Parts}
use Rattle.tt_problem.specs.Spans.{CoversFrom, Covers, IsSpanWithin, is_in, span_with}
use Rattle.tt_problem.specs.Places.{subpart_of, config_of}
use Rattle.tt_problem.specs.ListLengths.{span_length, spans_at}
use Rattle.tt_problem.specs.Valid.{IsValid}
use Rattle.tt_problem.proofs.SpanLemmas.{span_within}
use Rattle.tt_struct.specs.Enrolments.{count_in, fills, avoids, takes_one, takes_course}
use Rattle.tt_struct.specs.Configs.{config_in, first_config, keeps_to}
use Rattle.tt_struct.proofs.SpanWalks.{bounds, nth_place, place_in}
use Rattle.tt_struct.proofs.LengthLemmas.{in_config, all_count, avoided, one_of, no_span}

-- a span stands behind those before it
after_start : (spans : List Span) (first after k : ℕ) (d : Span) → CoversFrom first spans after → k < length spans → first ≤ (get_or spans k d).first
after_start [] first after k d covers lt = absurd (omega arith)
after_start (s ∷ spans) first after zero d covers lt = omega (arith, covers.0)
after_start (s ∷ spans) first after (suc k) d covers lt = omega (arith, covers.0, covers.1, after_start spans s.after after k d covers.2 (omega arith))

in_order : (spans : List Span) (first after i k : ℕ) (d : Span) → CoversFrom first spans after → i < k → k < length spans → (get_or spans i d).after ≤ (get_or spans k d).first
in_order [] first after i k d covers lt within = absurd (omega arith)
in_order (s ∷ spans) first after i zero d covers lt within = absurd (omega arith)
in_order (s ∷ spans) first after zero (suc k) d covers lt within = after_start spans s.after after k d covers.2 (omega arith)
in_order (s ∷ spans) first after (suc i) (suc k) d covers lt within = in_order spans s.after after i k d covers.2 (omega arith) (omega arith)

behind : (place : ℕ) (s : Span) → s.after ≤ place → is_in place s ≡ false
behind place s le = false_from_ne_true (is_in place s) (λ is. omega (arith, (bounds place s is).1))

-- a place is of the span that has it, and of no other
the_span : (spans : List Span) (count place k : ℕ) (d : Span) → Covers spans count → k < length spans → is_in place (get_or spans k d) ≡ true → span_with spans place ≡ Some k
the_span spans count place k d covers within is =
    let at : position_or_len (is_in place) spans ≡ k =
    position_or_len_is (is_in place) spans k d (omega arith)
    (λ i lt. behind place (get_or spans i d) (omega (arith, in_order spans 0 count i k d covers lt within, (bounds place (get_or spans k d) is).0)))
    (λ lt. is) in
    let test : nat_lt (position_or_len (is_in place) spans) (length spans) ≡ true = rw at (lt-ltb k (length spans) within) in
    rw (test, at) refl

-- a class is of the configuration that has its subpart
the_config : (p : Parts) (class m k : ℕ) → IsValid p → m < length p.subparts → k < length p.configs → is_in class (get_or p.subparts m no_span) ≡ true → is_in m (get_or p.configs k no_span) ≡ true
    → config_of p class ≡ Some k
the_config p class m k valid sub conf in_sub in_conf =
    ap (option_and_then (span_with p.configs)) (the_span p.subparts (length p.classes) class m no_span valid.subparts sub in_sub)
    ∙ the_span p.configs (length p.subparts) m k no_span valid.configs conf in_conf

-- a list with a class of a configuration doesn't avoid it
has_class : (p : Parts) (list : List ℕ) (n k : ℕ) → n < length list → config_of p (get_or list n 0) ≡ Some k → avoids p list (get_or p.configs k no_span) ≡ false
has_class p list n k lt of =
    let class = get_or list n 0 in
    option_and_then_some (span_with p.configs) (subpart_of p class) k of (λ m of_m of_k.
    let sub = position-Some (is_in class) p.subparts m no_span of_m in
    let conf = position-Some (is_in m) p.configs k no_span of_k in
    let s = get_or p.subparts m no_span in
    let one : ℕ → ℕ = λ x. cond (is_in x s) 1 0 in
    let own : one class ≡ 1 = ap {B = ℕ} (λ (b : Bool). cond b 1 0) sub.1 in
    let here : one class ≤ count_in list s = get_or-le-sum_by one list n 0 lt in
    let whole = one_of (count_in list) p.subparts (get_or p.configs k no_span) m no_span conf.1 sub.0 in
    false_from_ne_true (avoids p list (get_or p.configs k no_span)) (λ none. omega (arith, own, here, whole, avoided p list (get_or p.configs k no_span) none)))

-- a list with no class of a configuration avoids it
none_counted : (list : List ℕ) (s : Span) → ((n : ℕ) → n < length list → is_in (get_or list n 0) s ≡ true → ⊥) → count_in list s ≡ 0
none_counted [] s none = refl
none_counted (class ∷ list) s none =
    let one : ℕ → ℕ = λ x. cond (is_in x s) 1 0 in
    let out : is_in class s ≡ false = false_from_ne_true (is_in class s) (none 0 (omega arith)) in
    let own : one class ≡ 0 = ap {B = ℕ} (λ (b : Bool). cond b 1 0) out in
    omega (arith, own, sum_by-cons one class list, none_counted list s (λ n lt. none (suc n) (omega arith)))

no_sum : (f : Span → ℕ) (spans : List Span) (d : Span) → ((i : ℕ) → i < length spans → f (get_or spans i d) ≡ 0) → sum_by f spans ≡ 0
no_sum f [] d none = refl
no_sum f (s ∷ spans) d none = omega (arith, sum_by-cons f s spans, none 0 (omega arith), no_sum f spans d (λ i lt. none (suc i) (omega arith)))

has_none : (p : Parts) (list : List ℕ) (k : ℕ) → IsValid p → k < length p.configs → ((n : ℕ) → n < length list → config_of p (get_or list n 0) ≡ Some k → ⊥) → avoids p list (get_or p.configs k no_span) ≡ true
unfolding avoids
has_none p list k valid within none =
    let config = get_or p.configs k no_span in
    let empty : in_config p list config ≡ 0 = no_sum (count_in list) (spans_at p.subparts config) no_span (λ i lt.
    let at = nth_place p.subparts config i no_span lt in
    ap (count_in list) at.2 ∙ none_counted list (get_or p.subparts (config.first + i) no_span) (λ n below has. none n below (the_config p (get_or list n 0) (config.first + i) k valid at.1 within has at.0))) in
    sym (sum_by-zero (count_in list) (spans_at p.subparts config)) ∙ eq-eqb (in_config p list config) 0 empty

-- a configuration that is avoided isn't filled
not_filled : (p : Parts) (list : List ℕ) (config : Span) → IsSpanWithin (length p.subparts) config → avoids p list config ≡ true → fills p list config ≡ false
unfolding fills
not_filled p list config within none =
    false_from_ne_true (fills p list config) (λ filled.
    let spans = spans_at p.subparts config in
    omega (arith, within.some, within.within, avoided p list config none, all_count 1 (count_in list) spans filled, length-take (span_length config) (drop config.first p.subparts), length-drop config.first p.subparts))

-- what is taken of configurations none of which is filled, and of those with one that isn't avoided
only : (f all a rest : Bool) → all ≡ true → a ≡ false → ((f && all) || (a && rest)) ≡ f
only true all a rest e n = rw e refl
only false all a rest e n = rw n refl

later : (f all a rest : Bool) → all ≡ false → a ≡ true → ((f && all) || (a && rest)) ≡ rest
later true all a rest e y = rw (e, y) refl
later false all a rest e y = rw y refl

neither : (f all a rest : Bool) → all ≡ false → (a && rest) ≡ false → ((f && all) || (a && rest)) ≡ false
neither true all a rest e n = rw (e, n) refl
neither false all a rest e n = n

all_pass : (f : Span → Bool) (spans : List Span) (d : Span) → ((i : ℕ) → i < length spans → f (get_or spans i d) ≡ true) → list_all f spans ≡ true
all_pass f [] d each = refl
all_pass f (s ∷ spans) d each = rw (each 0 (omega arith)) (all_pass f spans d (λ i lt. each (suc i) (omega arith)))

takes_none : (p : Parts) (list : List ℕ) (configs : List Span) (d : Span) → ((i : ℕ) → i < length configs → (avoids p list (get_or configs i d) ≡ true) × (fills p list (get_or configs i d) ≡ false)) → takes_one p list configs ≡ false
takes_none p list [] d each = refl
takes_none p list (c ∷ configs) d each =
    let here = each 0 (omega arith) in
    rw (here.0, here.1) (takes_none p list configs d (λ i lt. each (suc i) (omega arith)))

takes_this : (p : Parts) (list : List ℕ) (configs : List Span) (i : ℕ) (d : Span) → i < length configs → avoids p list (get_or configs i d) ≡ false → ((j : ℕ) → j < length configs → j ≢ i → avoids p list (get_or configs j d) ≡ true)
    → takes_one p list configs ≡ fills p list (get_or configs i d)
takes_this p list [] i d lt this others = absurd (omega arith)
takes_this p list (c ∷ configs) zero d lt this others =
    only (fills p list c) (list_all (avoids p list) configs) (avoids p list c) (takes_one p list configs)
    (all_pass (avoids p list) configs d (λ j below. others (suc j) (omega arith) (λ e. absurd (omega arith)))) this
takes_this p list (c ∷ configs) (suc i) d lt this others =
    later (fills p list c) (list_all (avoids p list) configs) (avoids p list c) (takes_one p list configs)
    (list_all_at (avoids p list) configs i d (omega arith) this) (others 0 (omega arith) (λ e. absurd (omega arith)))
    ∙ takes_this p list configs i d (omega arith) this (λ j below other. others (suc j) (omega arith) (λ e. other (omega arith)))

takes_not : (p : Parts) (list : List ℕ) (configs : List Span) (i j : ℕ) (d : Span) → i < length configs → j < length configs → i ≢ j → avoids p list (get_or configs i d) ≡ false → avoids p list (get_or configs j d) ≡ false
    → takes_one p list configs ≡ false
takes_not p list [] i j d lt lt' other this that = absurd (omega arith)
takes_not p list (c ∷ configs) zero zero d lt lt' other this that = absurd (other refl)
takes_not p list (c ∷ configs) zero (suc j) d lt lt' other this that =
    neither (fills p list c) (list_all (avoids p list) configs) (avoids p list c) (takes_one p list configs)
    (list_all_at (avoids p list) configs j d (omega arith) that) (and_left (avoids p list c) (takes_one p list configs) this)
takes_not p list (c ∷ configs) (suc i) zero d lt lt' other this that =
    neither (fills p list c) (list_all (avoids p list) configs) (avoids p list c) (takes_one p list configs)
    (list_all_at (avoids p list) configs i d (omega arith) this) (and_left (avoids p list c) (takes_one p list configs) that)
takes_not p list (c ∷ configs) (suc i) (suc j) d lt lt' other this that =
    neither (fills p list c) (list_all (avoids p list) configs) (avoids p list c) (takes_one p list configs)
    (list_all_at (avoids p list) configs i d (omega arith) this)
    (and_right (avoids p list c) (takes_one p list configs) (takes_not p list configs i j d (omega arith) (omega arith) (λ e. other (omega arith)) this that))

-- the configuration that a class is of
in_course : (p : Parts) (course : CoursePart) (class k : ℕ) → config_of p class ≡ Some k → is_in k course.configs ≡ true → config_in p course class ≡ Some k
unfolding config_in
in_course p course class k of has = ap (option_and_then (λ config. if is_in config course.configs then Some config else None)) of ∙ rw has refl

of_course : (p : Parts) (course : CoursePart) (class k : ℕ) → config_in p course class ≡ Some k → (config_of p class ≡ Some k) × (is_in k course.configs ≡ true)
unfolding config_in
of_course p course class k is = go (config_of p class) is
  where
    one : (b : Bool) (x : ℕ) → b ≡ is_in x course.configs → (if b then Some x else None) ≡ Some k → (Some x ≡ Some k) × (is_in k course.configs ≡ true)
    one true x has e = let same : x ≡ k = cc in (e, rw same at (sym has))
    one false x has e = absurd (cc e)

    go : (o : Option ℕ) → option_and_then (λ config. if is_in config course.configs then Some config else None) o ≡ Some k → (o ≡ Some k) × (is_in k course.configs ≡ true)
    go None e = absurd (cc e)
    go (Some x) e = one (is_in x course.configs) x refl e

config_within : (p : Parts) (course : CoursePart) (class k : ℕ) → config_in p course class ≡ Some k → k < length p.configs
config_within p course class k is =
    option_and_then_some (span_with p.configs) (subpart_of p class) k (of_course p course class k is).0 (λ m of_m of_k. (position-Some (is_in m) p.configs k no_span of_k).0)

-- the configuration of the first class of the course is that of one of the classes, and there is none where no class is of the course
first_at : (p : Parts) (course : CoursePart) (list : List ℕ) (k : ℕ) → first_config p course list ≡ Some k → (n : ℕ) × (n < length list) × (config_in p course (get_or list n 0) ≡ Some k)
first_at p course [] k is = absurd (cc is)
first_at p course (class ∷ list) k is = go (config_in p course class) refl is (first_at p course list k)
  where
    go : (o : Option ℕ) → config_in p course class ≡ o → option_or o (first_config p course list) ≡ Some k
        → (first_config p course list ≡ Some k → (n : ℕ) × (n < length list) × (config_in p course (get_or list n 0) ≡ Some k))
        → (n : ℕ) × (n < length (class ∷ list)) × (config_in p course (get_or (class ∷ list) n 0) ≡ Some k)
    go None e is on = let rest = on is in (suc rest.0, omega (arith, rest.1), rest.2)
    go (Some x) e is on = (0, omega arith, e ∙ is)

first_none : (p : Parts) (course : CoursePart) (list : List ℕ) (n : ℕ) → first_config p course list ≡ None → n < length list → config_in p course (get_or list n 0) ≡ None
first_none p course [] n is lt = absurd (omega arith)
first_none p course (class ∷ list) n is lt = go (config_in p course class) refl is n lt (first_none p course list)
  where
    go : (o : Option ℕ) → config_in p course class ≡ o → option_or o (first_config p course list) ≡ None → (n : ℕ) → n < length (class ∷ list)
        → ((m : ℕ) → first_config p course list ≡ None → m < length list → config_in p course (get_or list m 0) ≡ None)
        → config_in p course (get_or (class ∷ list) n 0) ≡ None
    go None e is zero lt on = e
    go None e is (suc n) lt on = on n is (omega arith)
    go (Some x) e is n lt on = absurd (cc is)

-- a test of all that fails does so at a place
fails_at : (f : ℕ → Bool) (list : List ℕ) → list_all f list ≡ false → (n : ℕ) × (n < length list) × (f (get_or list n 0) ≡ false)
fails_at f [] is = absurd (cc is)
fails_at f (class ∷ list) is = elim (cases_Bool (f class)) [
  | inl passes ↦ let rest = fails_at f list (rw passes at is) in (suc rest.0, omega (arith, rest.1), rest.2)
  | inr fails ↦ (0, omega arith, fails)
]

passes_at : (f : ℕ → Bool) (list : List ℕ) (n : ℕ) → list_all f list ≡ true → n < length list → f (get_or list n 0) ≡ true
passes_at f [] n is lt = absurd (omega arith)
passes_at f (class ∷ list) zero is lt = (and_parts (f class) (list_all f list) is).0
passes_at f (class ∷ list) (suc n) is lt = passes_at f list n (and_parts (f class) (list_all f list) is).1 (omega arith)

-- no class of the list is of the course
pub taken_none : (p : Parts) (list : List ℕ) (course : CoursePart) → IsValid p → first_config p course list ≡ None → takes_course p list course ≡ false
unfolding takes_course
taken_none p list course valid none =
    takes_none p list (spans_at p.configs course.configs) no_span (λ i lt.
    let at = nth_place p.configs course.configs i no_span lt in
    let k = course.configs.first + i in
    let avoid : avoids p list (get_or p.configs k no_span) ≡ true =
    has_none p list k valid at.1 (λ n below of. absurd (cc (in_course p course (get_or list n 0) k of at.0, first_none p course list n none below))) in
    let within : IsSpanWithin (length p.subparts) (get_or p.configs k no_span) = span_within p.configs (length p.subparts) k no_span valid.configs at.1 in
    (ap (avoids p list) at.2 ∙ avoid, ap (fills p list) at.2 ∙ not_filled p list (get_or p.configs k no_span) within avoid))

-- the class that is found first is of one configuration of the course, which the list doesn't avoid
record IsFound (p : Parts) (list : List ℕ) (course : CoursePart) (k : ℕ) : Type 0 where
  within : k - course.configs.first < length (spans_at p.configs course.configs)
  from : course.configs.first ≤ k
  there : get_or (spans_at p.configs course.configs) (k - course.configs.first) no_span ≡ get_or p.configs k no_span
  has : avoids p list (get_or (spans_at p.configs course.configs) (k - course.configs.first) no_span) ≡ false

found_at : (p : Parts) (list : List ℕ) (course : CoursePart) (n k : ℕ) → k < length p.configs → n < length list → config_in p course (get_or list n 0) ≡ Some k → IsFound p list course k
found_at p list course n k within lt is =
    let of = of_course p course (get_or list n 0) k is in
    let there = place_in p.configs course.configs k no_span of.1 within in
    record {
      within = there.0;
      from = (bounds k course.configs of.1).0;
      there = there.1;
      has = ap (avoids p list) there.1 ∙ has_class p list n k lt of.0;
    }

found : (p : Parts) (list : List ℕ) (course : CoursePart) (k : ℕ) → k < length p.configs → first_config p course list ≡ Some k → IsFound p list course k
found p list course k within first = let at = first_at p course list k first in found_at p list course at.0 k within at.1 at.2

-- where each class of the course is of the configuration of the first, the list takes the course if it fills that configuration
pub taken_kept : (p : Parts) (list : List ℕ) (course : CoursePart) (k : ℕ) (config : Span) → IsValid p → first_config p course list ≡ Some k → k < length p.configs → slice_get p.configs k ≡ Some config
    → list_all (keeps_to p course k) list ≡ true → takes_course p list course ≡ fills p list config
unfolding takes_course
taken_kept p list course k config valid first within is keeps =
    let this = found p list course k within first in
    takes_this p list (spans_at p.configs course.configs) (k - course.configs.first) no_span this.within this.has (λ j lt other.
    let at = nth_place p.configs course.configs j no_span lt in
    ap (avoids p list) at.2 ∙ has_none p list (course.configs.first + j) valid at.1 (λ n below of.
    let kept : (unwrap_or (config_in p course (get_or list n 0)) k == k) ≡ true = passes_at (keeps_to p course k) list n keeps below in
    let here : config_in p course (get_or list n 0) ≡ Some (course.configs.first + j) = in_course p course (get_or list n 0) (course.configs.first + j) of at.0 in
    let same : course.configs.first + j ≡ k = eqb-true (course.configs.first + j) k (rw here at kept) in
    other (omega (arith, same))))
    ∙ ap (fills p list) (this.there ∙ get_or_from_slice_get p.configs k config no_span is)

-- where one is of another configuration, it doesn't
leaves : (p : Parts) (list : List ℕ) (course : CoursePart) (n k : ℕ) (o : Option ℕ) → IsValid p → IsFound p list course k → n < length list → config_in p course (get_or list n 0) ≡ o → (unwrap_or o k == k) ≡ false
    → takes_one p list (spans_at p.configs course.configs) ≡ false
leaves p list course n k None valid this lt is other = absurd (eqb-false k k other refl)
leaves p list course n k (Some j) valid this lt is other =
    let within : j < length p.configs = omega (arith, config_within p course (get_or list n 0) j is) in
    let that = found_at p list course n j within lt is in
    takes_not p list (spans_at p.configs course.configs) (k - course.configs.first) (j - course.configs.first) no_span this.within that.within
    (λ e. eqb-false j k other (omega (arith, e, this.from, that.from))) this.has that.has

pub taken_not : (p : Parts) (list : List ℕ) (course : CoursePart) (k : ℕ) → IsValid p → first_config p course list ≡ Some k → k < length p.configs → list_all (keeps_to p course k) list ≡ false → takes_course p list course ≡ false
unfolding takes_course
taken_not p list course k valid first within fails =
    let at = fails_at (keeps_to p course k) list fails in
    leaves p list course at.0 k (config_in p course (get_or list at.0 0)) valid (found p list course k within first) at.1 refl at.2
