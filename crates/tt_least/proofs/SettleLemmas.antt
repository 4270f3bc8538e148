-- What is left where one class of a subpart is left alone, and choices that are no earlier than another one.
use Rattle.std.proofs.Common.{◌≡◌, ◌≢◌, ℕ, zero, suc, ◌+◌, ◌<◌, ◌≤◌, Bool, true, false, List, [], ◌∷◌, Some, get_or, length, arith, refl, sym, ap, ◌∙◌, inl, inr, ◌⊎◌, nat_eq, nat_lt}
use Rattle.std.specs.Prelude.{slice_get, slice_index_or}
use Rattle.std.specs.List.{list_all}
use Rattle.std.specs.Cmp.{nat_cmp_is}
use Rattle.std.specs.declared.cmp.Ordering.TheVariants.{Equal, Greater}
use Rattle.std.proofs.lemmas.Bool.{and_parts}
use Rattle.std.proofs.lemmas.Bool.Decides.{nat_tests}
use Rattle.tt_base.specs.Lists.{comes_before}
use Rattle.tt_problem.specs.declared.parts.Span.{Span}
use Rattle.tt_problem.specs.Spans.{is_in}
use Rattle.tt_least.specs.declared.table.Table.{Table}
use Rattle.tt_least.specs.Judged.{IsIn, IsTable, is_flagged}
use Rattle.tt_least.specs.Nodes.{IsLeft}
use Rattle.tt_least.specs.Searches.{IsAlone}
use Rattle.tt_least.proofs.ChoiceLemmas.{choice-in, choice-at, choice-long, choice-only, within-span}

-- a place that is not in a span is before it or past it
pub outside-span : (d : ℕ) (s : Span) → is_in d s ≡ false → (d < s.first) ⊎ (s.after ≤ d)
outside-span d s outside = by (nat_lt d s.first) refl
  where
    by : (early : Bool) → nat_lt d s.first ≡ early → (d < s.first) ⊎ (s.after ≤ d)
    by true is = inl (grind (arith, nat_tests))
    by false is = inr (grind (arith, nat_tests))

-- two numbers are the same, or they are not
pub same-or-not : (c d : ℕ) → (c ≡ d) ⊎ (c ≢ d)
same-or-not c d = by (nat_eq c d) refl
  where
    by : (same : Bool) → nat_eq c d ≡ same → (c ≡ d) ⊎ (c ≢ d)
    by true is = inl (grind (arith, nat_tests))
    by false is = inr (λ same. grind (arith, nat_tests))

-- where all of a list pass a test, the one at a place does
pub all-at : {X : Type 0} (p : X → Bool) (xs : List X) (k : ℕ) (d : X) → k < length xs → list_all p xs ≡ true → p (get_or xs k d) ≡ true
all-at p [] k d below all = absurd (omega arith)
all-at p (x ∷ xs) zero d below all = (and_parts (p x) (list_all p xs) all).0
all-at p (x ∷ xs) (suc k) d below all = all-at p xs k d (omega arith) (and_parts (p x) (list_all p xs) all).1

-- where the one at each place passes a test, all of the list do
pub all-from : {X : Type 0} (p : X → Bool) (xs : List X) (d : X) → ((k : ℕ) → k < length xs → p (get_or xs k d) ≡ true) → list_all p xs ≡ true
all-from p [] d each = refl
all-from p (x ∷ xs) d each = rw (each 0 (omega arith), all-from p xs d (λ k below. each (suc k) (omega arith))) refl

module _ (t : Table) (k c : ℕ) (s : Span) (old new : List Bool) (table : IsTable t) (at : slice_get t.subparts.now k ≡ Some s) (alone : IsAlone t.first s c old new) where
  -- a class of the span that is left is the one that was left alone
  left-alone : (d : ℕ) → is_in d s ≡ true → is_flagged t new d ≡ true → d ≡ c
  left-alone d inside flag = elim (same-or-not d c) [ inl same ↦ same | inr other ↦ absurd (no (alone.others d inside other)) ]
    where
      no : is_flagged t new d ≡ false → ⊥
      no off = cc

  -- a class that is left was left before
  was-left : (d : ℕ) → IsIn t d → is_flagged t new d ≡ true → is_flagged t old d ≡ true
  was-left d within flag = by (is_in d s) refl
    where
      by : (b : Bool) → is_in d s ≡ b → is_flagged t old d ≡ true
      by true inside =
          let same : d ≡ c = left-alone d inside flag in
          let flagged : is_flagged t new c ≡ true = rw (sym same) flag in
          rw same (sym alone.one ∙ flagged)
      by false outside = sym (alone.rest d within.0 outside) ∙ flag

  -- a choice of what is left is one of what was left before
  pub alone-within : (choice : List ℕ) → IsLeft t new choice → IsLeft t old choice
  alone-within choice those = record {
    one_of_each = those.one_of_each;
    are_left = all-from (is_flagged t old) choice 0 (λ j below.
        was-left (get_or choice j 0) (choice-in t choice table those.one_of_each j 0 below) (all-at (is_flagged t new) choice j 0 below those.are_left));
  }

  -- its class of the subpart is the one that was left alone
  pub alone-class : (choice : List ℕ) → k < length t.subparts.now → IsLeft t new choice → slice_index_or choice k 0 ≡ c
  alone-class choice few those =
      let bounds = choice-at t.subparts.now choice k s those.one_of_each at in
      let below : k < length choice = omega (arith, choice-long t.subparts.now choice those.one_of_each) in
      left-alone (slice_index_or choice k 0) (within-span (slice_index_or choice k 0) s bounds.0 bounds.1) (all-at (is_flagged t new) choice k 0 below those.are_left)

  -- a choice of what was left before with that class is one of what is left
  pub alone-keeps : (choice : List ℕ) → IsLeft t old choice → slice_index_or choice k 0 ≡ c → IsLeft t new choice
  alone-keeps choice those class = record {
    one_of_each = those.one_of_each;
    are_left = all-from (is_flagged t new) choice 0 (λ j below. each j below (is_in (get_or choice j 0) s) refl);
  }
    where
      each : (j : ℕ) → j < length choice → (b : Bool) → is_in (get_or choice j 0) s ≡ b → is_flagged t new (get_or choice j 0) ≡ true
      each j below true inside =
          let here : j ≡ k = choice-only t.first (t.first + t.count) t.subparts.now choice k j s table.apart those.one_of_each at below inside in
          let same : get_or choice j 0 ≡ c = ap (λ (i : ℕ). get_or choice i 0) here ∙ class in
          let flagged : is_flagged t old c ≡ true = rw (sym same) (all-at (is_flagged t old) choice j 0 below those.are_left) in
          rw same (alone.one ∙ flagged)
      each j below false outside =
          alone.rest (get_or choice j 0) (choice-in t choice table those.one_of_each j 0 below).0 outside ∙ all-at (is_flagged t old) choice j 0 below those.are_left

-- a list that has a greater number at the first place where it differs from another one does not come before that
pub later-not-before : (best other : List ℕ) (place : ℕ) → place < length best → place < length other → ((j : ℕ) → j < place → get_or other j 0 ≡ get_or best j 0)
    → get_or best place 0 < get_or other place 0 → comes_before other best ≡ false
later-not-before [] other place within inside same greater = absurd (omega arith)
later-not-before (x ∷ best) [] place within inside same greater = absurd (omega arith)
later-not-before (x ∷ best) (y ∷ other) zero within inside same greater = rw (sym (nat_cmp_is y x Greater greater)) refl
later-not-before (x ∷ best) (y ∷ other) (suc place) within inside same greater =
    rw (sym (nat_cmp_is y x Equal (same 0 (omega arith))))
    (later-not-before best other place (omega arith) (omega arith) (λ j before. same (suc j) (omega arith)) greater)

-- a list with the same numbers as another one does not come before it
pub same-not-before : (best other : List ℕ) → length other ≡ length best → ((j : ℕ) → j < length best → get_or other j 0 ≡ get_or best j 0) → comes_before other best ≡ false
same-not-before [] [] long same = refl
same-not-before [] (y ∷ other) long same = absurd (omega arith)
same-not-before (x ∷ best) [] long same = absurd (omega arith)
same-not-before (x ∷ best) (y ∷ other) long same =
    rw (sym (nat_cmp_is y x Equal (same 0 (omega arith)))) (same-not-before best other (omega arith) (λ j below. same (suc j) (omega arith)))
