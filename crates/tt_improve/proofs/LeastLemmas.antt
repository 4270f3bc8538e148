-- The least of a list is below a bound where one of the list is.
use Rattle.std.proofs.Common.{◌≡◌, ℕ, ◌≤◌, Bool, true, false, cond, List, [], ◌∷◌, Option, Some, None, get_or, refl, ap, ◌∙◌, arith, nat_lt, subst}
use Rattle.std.specs.Cmp.{IsStrictWeakOrder}
use Rattle.std.specs.Prelude.{◌==◌, IfSome, if◌then◌else◌, filter, option_and_then}
use Rattle.std.specs.List.{AllByRecursion}
use Rattle.std.specs.Ordering.{nat_cmp, is_lt, ordering_then}
use Rattle.std.specs.declared.cmp.Ordering.{Ordering}
use Rattle.std.specs.declared.cmp.Ordering.TheVariants.{Less, Equal, Greater}
use Rattle.std.proofs.lemmas.Bool.Decides.{nat_tests}
use Rattle.std.proofs.lemmas.Cmp.{nat_list_cmp_total}
use Rattle.std.proofs.lemmas.List.Elements.{All-from_recursion, recursion_from_All}
use Rattle.std.proofs.lemmas.List.MinMax.{ranks_by, IsFirstBest-from_best_of}
use Rattle.std.proofs.lemmas.Option.{slice_get-get_or, get_or_from_slice_get}
use Rattle.tt_base.specs.Lists.{is_less, first_least}
use Rattle.tt_choice.proofs.Order.{all-weaken}

-- what is kept of a list has what each that passes has
pub all_of_kept : {A : Type 0} (f : A → Bool) (P : A → Type 0) (xs : List A) → AllByRecursion P (filter f xs) → AllByRecursion (λ x. f x ≡ true → P x) xs
all_of_kept f P [] h = tt
all_of_kept f P (x ∷ xs) h = by (f x) refl h (all_of_kept f P xs)
  where
    by : (b : Bool) → f x ≡ b → AllByRecursion P (cond b (x ∷ filter f xs) (filter f xs)) → (AllByRecursion P (filter f xs) → AllByRecursion (λ y. f y ≡ true → P y) xs) → AllByRecursion (λ y. f y ≡ true → P y) (x ∷ xs)
    by true e all rest = (λ is. all.0, rest all.1)
    by false e all rest = (λ is. absurd (cc (e, is)), rest all)

pub kept_of_all : {A : Type 0} (f : A → Bool) (P : A → Type 0) (xs : List A) → AllByRecursion (λ x. f x ≡ true → P x) xs → AllByRecursion P (filter f xs)
kept_of_all f P [] h = tt
kept_of_all f P (x ∷ xs) h = by (f x) refl (kept_of_all f P xs h.1)
  where
    by : (b : Bool) → f x ≡ b → AllByRecursion P (filter f xs) → AllByRecursion P (cond b (x ∷ filter f xs) (filter f xs))
    by true e rest = (h.0 e, rest)
    by false e rest = rest

module _ {A : Type 0} (number : A → ℕ) (more : A → List ℕ) where
  abbrev numbers : A → List ℕ
  numbers x = number x ∷ more x

  ranks : IsStrictWeakOrder (is_less numbers)
  ranks = ranks_by nat_list_cmp_total numbers

  -- the first number decides
  first_less : (m n : ℕ) (o : Ordering) → nat_lt m n ≡ true → is_lt (ordering_then (nat_cmp m n) o) ≡ true
  first_less m n o e = decides (nat_lt m n) (m == n) e
    where
      decides : (less same : Bool) → less ≡ true → is_lt (ordering_then (cond less Less (cond same Equal Greater)) o) ≡ true
      decides true same e = refl
      decides false same e = absurd (cc e)

  no_lower : (x r : A) → is_less numbers x r ≡ false → number r ≤ number x
  no_lower x r e = by (nat_lt (number x) (number r)) refl
    where
      by : (b : Bool) → nat_lt (number x) (number r) ≡ b → number r ≤ number x
      by true lt = absurd (let less : is_less numbers x r ≡ true = first_less (number x) (number r) _ lt in cc (less, e))
      by false lt = grind (arith, nat_tests)

  -- no number of the list is lower than that of the least
  least_is_least : (xs : List A) (r : A) → first_least numbers xs ≡ Some r → AllByRecursion (λ x. number r ≤ number x) xs
  least_is_least [] r e = tt
  least_is_least (c ∷ xs) r e =
      let first = IsFirstBest-from_best_of ranks c xs in
      let here = slice_get-get_or (c ∷ xs) first.0 c first.1.0 ∙ ap Some first.2 ∙ e in
      recursion_from_All (λ x. number r ≤ number x) (c ∷ xs)
      (λ k d lt. no_lower (get_or (c ∷ xs) k d) r (rw (get_or_from_slice_get (c ∷ xs) first.0 r d here) at (first.1.1 k d lt)))

  -- the least has what all have
  one_of : (P : A → Type 0) (xs : List A) → AllByRecursion P xs → IfSome (first_least numbers xs) P
  one_of P [] all = tt
  one_of P (c ∷ xs) all =
      let first = IsFirstBest-from_best_of ranks c xs in
      subst P first.2 (All-from_recursion P (c ∷ xs) all first.0 c first.1.0)

  module _ {B : Type 0} (found : A → B) (bound : ℕ) where
    abbrev if_below : A → Option B
    if_below x = if nat_lt (number x) bound then Some (found x) else None

    -- where the least isn't below the bound, none of the list is
    pub none_below : (xs : List A) → option_and_then if_below (first_least numbers xs) ≡ None → AllByRecursion (λ x. bound ≤ number x) xs
    none_below xs none = by (first_least numbers xs) refl none
      where
        high : (r : A) (b : Bool) → nat_lt (number r) bound ≡ b → (if b then Some (found r) else None) ≡ None → bound ≤ number r
        high r true e is = absurd (cc is)
        high r false e is = grind (arith, nat_tests)

        empty : (ys : List A) → first_least numbers ys ≡ None → AllByRecursion (λ x. bound ≤ number x) ys
        empty [] e = tt
        empty (y ∷ ys) e = absurd (cc e)

        by : (o : Option A) → first_least numbers xs ≡ o → option_and_then if_below o ≡ None → AllByRecursion (λ x. bound ≤ number x) xs
        by None e is = empty xs e
        by (Some r) e is =
            let low = high r (nat_lt (number r) bound) refl is in
            all-weaken (λ x. number r ≤ number x) (λ x. bound ≤ number x) (λ x le. omega (arith, le, low)) xs (least_is_least xs r e)

    -- and the other way round
    pub below_none : (xs : List A) → AllByRecursion (λ x. bound ≤ number x) xs → option_and_then if_below (first_least numbers xs) ≡ None
    below_none xs all = by (first_least numbers xs) (one_of (λ x. bound ≤ number x) xs all)
      where
        by : (o : Option A) → IfSome o (λ x. bound ≤ number x) → option_and_then if_below o ≡ None
        by None le = refl
        by (Some r) le = let high : nat_lt (number r) bound ≡ false = grind (arith, nat_tests) in rw high refl
