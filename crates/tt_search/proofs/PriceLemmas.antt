-- The order of lists of numbers: what the first numbers tell, and what those behind them.
use Rattle.std.proofs.Common.{◌≡◌, ℕ, ◌<◌, ◌≤◌, Bool, true, false, List, [], ◌∷◌, ◌++◌, length, refl, sym, arith}
use Rattle.std.specs.Prelude.{nat_lt}
use Rattle.std.specs.List.{sum_by}
use Rattle.std.specs.Cmp.{IsStrictWeakOrder, nat_cmp_is}
use Rattle.std.specs.Cmp.Lexicographic.{slice_cmp}
use Rattle.std.specs.Ordering.{is_lt, nat_cmp, ordering_reverse, ordering_then}
use Rattle.std.specs.declared.cmp.Ordering.{Ordering}
use Rattle.std.specs.declared.cmp.Ordering.TheVariants.{Less, Equal, Greater}
use Rattle.std.proofs.lemmas.Bool.Decides.{nat_tests}
use Rattle.std.proofs.lemmas.Cmp.{nat_list_cmp_total}
use Rattle.std.proofs.lemmas.List.Sums.{sum_by-cons}
use Rattle.std.proofs.lemmas.List.MinMax.{ranks_by}
use Rattle.std.proofs.lemmas.Map.Lookups.{exact_bytes}
use Rattle.tt_base.specs.Lists.{comes_before, is_less}

pub order : {A : Type 0} (numbers : A → List ℕ) → IsStrictWeakOrder (is_less numbers)
order numbers = ranks_by nat_list_cmp_total numbers

-- where the first numbers are lower, those behind them don't matter
pub front_decides : (xs ys ts us : List ℕ) → length xs ≡ length ys → comes_before xs ys ≡ true → comes_before (xs ++ ts) (ys ++ us) ≡ true
front_decides [] [] ts us same before = absurd (cc)
front_decides [] (y ∷ ys) ts us same before = absurd (omega (arith, same))
front_decides (x ∷ xs) [] ts us same before = absurd (omega (arith, same))
front_decides (x ∷ xs) (y ∷ ys) ts us same before = by (nat_cmp x y) (front_decides xs ys ts us (omega (arith, same))) before
  where
    by : (o : Ordering) → (comes_before xs ys ≡ true → comes_before (xs ++ ts) (ys ++ us) ≡ true) → is_lt (ordering_then o (slice_cmp nat_cmp xs ys)) ≡ true
        → is_lt (ordering_then o (slice_cmp nat_cmp (xs ++ ts) (ys ++ us))) ≡ true
    by Less behind lower = refl
    by Equal behind lower = behind lower
    by Greater behind lower = absurd (cc)

-- and where they are the same, those behind them decide
pub rest_decides : (xs ts us : List ℕ) → comes_before (xs ++ ts) (xs ++ us) ≡ comes_before ts us
rest_decides [] ts us = refl
rest_decides (x ∷ xs) ts us = rw (sym (nat_cmp_is x x Equal refl)) (rest_decides xs ts us)

-- of two lists of which neither comes before the other
pub neither : (xs ys : List ℕ) → comes_before xs ys ≡ false → comes_before ys xs ≡ false → xs ≡ ys
neither xs ys not_before not_after = exact_bytes xs ys (by (slice_cmp nat_cmp xs ys) (slice_cmp nat_cmp ys xs) (nat_list_cmp_total.antisymm xs ys) not_before not_after)
  where
    by : (o w : Ordering) → o ≡ ordering_reverse w → is_lt o ≡ false → is_lt w ≡ false → o ≡ Equal
    by Less w turned not_before not_after = absurd (cc)
    by Equal w turned not_before not_after = refl
    by Greater Less turned not_before not_after = absurd (cc)
    by Greater Equal turned not_before not_after = absurd (cc)
    by Greater Greater turned not_before not_after = absurd (cc)

-- the same number of numbers
pub number_before : (t u : ℕ) → comes_before (t ∷ []) (u ∷ []) ≡ nat_lt t u
number_before t u = by (nat_lt t u) refl
  where
    by : (b : Bool) → nat_lt t u ≡ b → comes_before (t ∷ []) (u ∷ []) ≡ b
    by true is = let below : t < u = grind (arith, nat_tests) in rw (sym (nat_cmp_is t u Less below)) refl
    by false is = at_least (nat_lt u t) refl
      where
        at_least : (b : Bool) → nat_lt u t ≡ b → comes_before (t ∷ []) (u ∷ []) ≡ false
        at_least true above = let more : u < t = grind (arith, nat_tests) in rw (sym (nat_cmp_is t u Greater more)) refl
        at_least false not_above = let same : t ≡ u = grind (arith, nat_tests) in rw (sym (nat_cmp_is t u Equal same)) refl

-- each class that a value pushes out weighs 1 at least
pub at_least_1 : {A : Type 0} (f : A → ℕ) → ((a : A) → 1 ≤ f a) → (xs : List A) → length xs ≤ sum_by f xs
at_least_1 f each [] = omega arith
at_least_1 f each (x ∷ xs) = omega (arith, each x, at_least_1 f each xs, sum_by-cons f x xs)
