-- Where a subpart that is still to come can't be filled, no choice is allowed.
use Rattle.std.proofs.Common.{◌≡◌, ℕ, suc, ◌+◌, ◌-◌, ◌<◌, ◌≤◌, Bool, true, false, List, [], ◌∷◌, ◌++◌, Option, Some, None, map, get_or, length, arith, refl, sym, ap, ◌∙◌, nat_eq}
use Rattle.std.specs.Prelude.{◌&&◌, ◌||◌}
use Rattle.std.specs.List.{list_all, list_any, AllByRecursion}
use Rattle.std.specs.Option.{option_map_or}
use Rattle.std.proofs.lemmas.Bool.{and_parts}
use Rattle.std.proofs.lemmas.Bool.Decides.{nat_tests}
use Rattle.std.proofs.lemmas.List.Folds.{list_all-append, list_any-append, list_all_at}
use Rattle.tt_base.specs.Lists.{is_listed}
use Rattle.tt_problem.specs.declared.parts.Span.{Span}
use Rattle.tt_problem.specs.Spans.{is_in}
use Rattle.tt_choice.specs.Choices.{choices_of}
use Rattle.tt_choice.specs.Least.{Situation, has_parent_with, may_be_taken, is_allowed}
use Rattle.tt_choice.specs.Pieces.{places_between, each_before}
use Rattle.tt_choice.specs.Open.{may_come, can_all_be_filled}
use Rattle.tt_choice.proofs.EachLemmas.{all_both, before-map, before-each, no-and, and-no, fails, all_follow}
use Rattle.tt_choice.proofs.Order.{all-append, all-weaken}

neither : (a b : Bool) → (a || b) ≡ false → (a ≡ false) × (b ≡ false)
neither true b h = absurd (cc h)
neither false b h = (refl, h)

-- a test of the classes of a span, class by class
module _ (test : ℕ → Bool) (n after : ℕ) where
  pub any-next : n < after → test n ≡ false → list_any test (places_between (n + 1) after) ≡ list_any test (places_between n after)
  any-next lt h = let e : after - n ≡ suc (after - (n + 1)) = omega arith in rw (e, h) refl

  pub any-here : n < after → test n ≡ true → list_any test (places_between n after) ≡ true
  any-here lt h = let e : after - n ≡ suc (after - (n + 1)) = omega arith in rw (e, h) refl

  pub any-end : after ≤ n → list_any test (places_between n after) ≡ false
  any-end le = let e : after - n ≡ 0 = omega arith in rw e refl

-- a choice fails a test where a subpart has no class that passes it
module _ (test : ℕ → Bool) where
  none-first : (classes : List ℕ) (choices : List (List ℕ)) → list_any test classes ≡ false → AllByRecursion (λ x. list_all test x ≡ false) (each_before classes choices)
  none-first [] choices h = tt
  none-first (c ∷ classes) choices h =
      let two = neither (test c) (list_any test classes) h in
      all-append (λ x. list_all test x ≡ false) (map (λ choice. c ∷ choice) choices) (each_before classes choices) (first two.0 choices) (none-first classes choices two.1)
    where
      first : test c ≡ false → (xs : List (List ℕ)) → AllByRecursion (λ x. list_all test x ≡ false) (map (λ choice. c ∷ choice) xs)
      first failed [] = tt
      first failed (x ∷ xs) = (no-and (test c) (list_all test x) failed, first failed xs)

  none-later : (classes : List ℕ) (choices : List (List ℕ)) → AllByRecursion (λ x. list_all test x ≡ false) choices → AllByRecursion (λ x. list_all test x ≡ false) (each_before classes choices)
  none-later [] choices h = tt
  none-later (c ∷ classes) choices h =
      all-append (λ x. list_all test x ≡ false) (map (λ choice. c ∷ choice) choices) (each_before classes choices)
      (before-map (λ x. list_all test x ≡ false) (λ x. list_all test x ≡ false) c (λ x failed. and-no (test c) (list_all test x) failed) choices h) (none-later classes choices h)

  none-fills : (rest : List Span) → list_all (λ t. list_any test (places_between t.first t.after)) rest ≡ false → AllByRecursion (λ x. list_all test x ≡ false) (choices_of rest)
  none-fills [] h = absurd (cc h)
  none-fills (t ∷ rest) h = step (list_any test (places_between t.first t.after)) refl (λ e. none-fills rest e)
    where
      later : (a b : Bool) → a ≡ true → (a && b) ≡ false → b ≡ false
      later true b ok failed = failed
      later false b ok failed = absurd (cc ok)

      step : (some : Bool) → list_any test (places_between t.first t.after) ≡ some
          → (list_all (λ u. list_any test (places_between u.first u.after)) rest ≡ false → AllByRecursion (λ x. list_all test x ≡ false) (choices_of rest))
          → AllByRecursion (λ x. list_all test x ≡ false) (choices_of (t ∷ rest))
      step true e more =
          none-later (places_between t.first t.after) (choices_of rest)
          (more (later (list_any test (places_between t.first t.after)) (list_all (λ u. list_any test (places_between u.first u.after)) rest) e h))
      step false e more = none-first (places_between t.first t.after) (choices_of rest) e

-- the classes of a choice are classes of the subparts
abbrev pub AreAmong : List Span → List ℕ → Type 0
AreAmong spans choice = AllByRecursion (λ c. list_any (is_in c) spans ≡ true) choice

or-right : (a b : Bool) → b ≡ true → (a || b) ≡ true
or-right true b h = refl
or-right false b h = h

or-left : (a b : Bool) → a ≡ true → (a || b) ≡ true
or-left true b h = refl
or-left false b h = absurd (cc h)

among : (spans rest : List Span) → ((c : ℕ) → list_any (is_in c) rest ≡ true → list_any (is_in c) spans ≡ true) → AllByRecursion (AreAmong spans) (choices_of rest)
among spans [] h = (tt, tt)
among spans (t ∷ rest) h =
    before-each (AreAmong spans) (λ c. AreAmong spans) (choices_of rest) t.first (t.after - t.first)
    (λ c le lt choice those. (h c (or-left (is_in c t) (list_any (is_in c) rest) (inside c le (omega arith))), those))
    (λ c le lt. among spans rest (λ d e. h d (or-right (is_in d t) (list_any (is_in d) rest) e)))
  where
    inside : (c : ℕ) → t.first ≤ c → c < t.after → is_in c t ≡ true
    inside c le lt = grind (arith, nat_tests)

pub among-choices : (rest : List Span) → AllByRecursion (AreAmong rest) (choices_of rest)
among-choices rest = among rest rest (λ c e. e)

listed-among : (spans : List Span) (p : ℕ) (choice : List ℕ) → AreAmong spans choice → is_listed p choice ≡ true → list_any (is_in p) spans ≡ true
listed-among spans p [] those h = absurd (cc h)
listed-among spans p (c ∷ choice) those h = step (nat_eq p c) refl h (λ e. listed-among spans p choice those.1 e)
  where
    same : (p c : ℕ) → nat_eq p c ≡ true → p ≡ c
    same p c e = grind (arith, nat_tests)

    step : (b : Bool) → nat_eq p c ≡ b → (b || is_listed p choice) ≡ true → (is_listed p choice ≡ true → list_any (is_in p) spans ≡ true) → list_any (is_in p) spans ≡ true
    step true e ok more = rw (same p c e) those.0
    step false e ok more = more ok

module _ (s : Situation) (front : List ℕ) (rest : List Span) (choice : List ℕ) (those : AreAmong rest choice) where
  may_have : (parent : Option ℕ) → option_map_or (λ p. is_listed p (front ++ choice) || is_listed p s.already) parent true ≡ true
      → option_map_or (λ p. is_listed p front || is_listed p s.already || list_any (is_in p) rest) parent true ≡ true
  may_have None h = refl
  may_have (Some p) h =
      let split : ((is_listed p front || is_listed p choice) || is_listed p s.already) ≡ true =
      ap (λ (b : Bool). b || is_listed p s.already) (sym (list_any-append (nat_eq p) front choice)) ∙ h in
      join (is_listed p front) (is_listed p choice) (is_listed p s.already) (list_any (is_in p) rest) (listed-among rest p choice those) split
    where
      join : (a b c d : Bool) → (b ≡ true → d ≡ true) → ((a || b) || c) ≡ true → ((a || c) || d) ≡ true
      join true b c d f e = refl
      join false b true d f e = refl
      join false true false d f e = f refl
      join false false false d f e = absurd (cc e)

  -- a class of an allowed choice may come
  comes : (c : ℕ) → (s.has_seat c && has_parent_with s (front ++ choice) c) ≡ true → may_come s front rest c ≡ true
  comes c h =
      let two = and_parts (s.has_seat c) (has_parent_with s (front ++ choice) c) h in
      rw (two.0, may_have (s.parent_of c) two.1) refl

  refused : list_all (λ c. s.has_seat c && has_parent_with s (front ++ choice) c) (front ++ choice) ≡ false → is_allowed s (front ++ choice) ≡ false
  refused h = no-and (may_be_taken s (front ++ choice)) (list_all (has_parent_with s (front ++ choice)) s.wanting) h

  -- where one of its classes may not come, a choice isn't allowed
  refused-later : list_all (may_come s front rest) choice ≡ false → is_allowed s (front ++ choice) ≡ false
  refused-later h =
      let p : ℕ → Bool = λ c. s.has_seat c && has_parent_with s (front ++ choice) c in
      let failed : list_all p choice ≡ false = fails (list_all p choice) (list_all (may_come s front rest) choice) (all_follow p (may_come s front rest) comes choice) h in
      refused (list_all-append p front choice ∙ and-no (list_all p front) (list_all p choice) failed)

  pub refused-front : (k : ℕ) → k < length front → may_come s front rest (get_or front k 0) ≡ false → is_allowed s (front ++ choice) ≡ false
  refused-front k lt h =
      let p : ℕ → Bool = λ c. s.has_seat c && has_parent_with s (front ++ choice) c in
      let c = get_or front k 0 in
      let failed : p c ≡ false = fails (p c) (may_come s front rest c) (comes c) h in
      let all : list_all p front ≡ false = list_all_at p front k 0 lt failed in
      refused (list_all-append p front choice ∙ no-and (list_all p front) (list_all p choice) all)

-- no choice that goes on from a front is allowed, where one of the subparts can't be filled
pub closed-none : (s : Situation) (front : List ℕ) (rest : List Span) → can_all_be_filled s front rest ≡ false → AllByRecursion (λ choice. is_allowed s (front ++ choice) ≡ false) (choices_of rest)
closed-none s front rest h =
    all_both (AreAmong rest) (λ x. list_all (may_come s front rest) x ≡ false) (λ choice. is_allowed s (front ++ choice) ≡ false)
    (λ choice those failed. refused-later s front rest choice those failed) (choices_of rest) (among-choices rest) (none-fills (may_come s front rest) rest h)

-- nor where a class of the front may not come
pub barred-none : (s : Situation) (front : List ℕ) (rest : List Span) (k : ℕ) → k < length front → may_come s front rest (get_or front k 0) ≡ false
    → AllByRecursion (λ choice. is_allowed s (front ++ choice) ≡ false) (choices_of rest)
barred-none s front rest k lt h = all-weaken (AreAmong rest) (λ choice. is_allowed s (front ++ choice) ≡ false) (λ choice those. refused-front s front rest choice those k lt h) (choices_of rest) (among-choices rest)
