-- Numbers in lists, the rest of a list from a place on, and the first least of a list, piece by piece.
use Rattle.std.proofs.Common.{◌≡◌, ◌∙◌, ℕ, zero, suc, ◌+◌, ◌<◌, Bool, true, false, cond, Option, Some, None, List, [], ◌∷◌, ◌++◌, length, drop, refl, ap, arith}
use Rattle.std.specs.Prelude.{◌==◌, slice_get}
use Rattle.std.specs.List.{list_any}
use Rattle.std.proofs.lemmas.Bool.Decides.{nat_tests}
use Rattle.std.proofs.lemmas.List.Sums.{fold-append}
use Rattle.tt_base.specs.Lists.{is_listed, is_less, least_after}

-- the order of two numbers makes no difference to whether they are equal
pub equal_turned : (a b : ℕ) → (a == b) ≡ (b == a)
equal_turned a b = grind (arith, nat_tests)

pub apart_turned : (a b : ℕ) → (a == b) ≡ false → (b == a) ≡ false
apart_turned a b apart = equal_turned b a ∙ apart

-- two tests that agree on each item agree on whether some item passes
pub any_agree : (p q : ℕ → Bool) → ((i : ℕ) → p i ≡ q i) → (xs : List ℕ) → list_any p xs ≡ list_any q xs
any_agree p q same [] = refl
any_agree p q same (x ∷ xs) = rw (same x, any_agree p q same xs) refl

-- the test that `contains` of a slice makes is that of the definition
pub listed_turned : (n : ℕ) (list : List ℕ) → list_any (λ other. other == n) list ≡ is_listed n list
listed_turned n list = any_agree (λ other. other == n) (λ other. n == other) (λ other. equal_turned other n) list

-- a list that has a number isn't empty
pub has_some : (n : ℕ) (list : List ℕ) → is_listed n list ≡ true → 0 < length list
has_some n [] has = absurd (cc has)
has_some n (x ∷ xs) has = omega arith

-- a list from a place on begins with what stands there
pub drop_at : {A : Type 0} (xs : List A) (k : ℕ) (x : A) → slice_get xs k ≡ Some x → drop k xs ≡ x ∷ drop (k + 1) xs
drop_at [] k x is = absurd (cc)
drop_at (y ∷ ys) zero x is = let e : y ≡ x = cc in ap (λ z. z ∷ ys) e
drop_at (y ∷ ys) (suc k) x is = let e : suc k + 1 ≡ suc (k + 1) = omega arith in rw e (drop_at ys k x is)

-- nothing more to find
pub least_after_none : {A : Type 0} (numbers : A → List ℕ) (found : Option A) → least_after numbers found [] ≡ found
least_after_none numbers None = refl
least_after_none numbers (Some found) = refl

-- the least of two pieces, found one after the other
pub least_after_append : {A : Type 0} (numbers : A → List ℕ) (found : Option A) (xs ys : List A) → least_after numbers found (xs ++ ys) ≡ least_after numbers (least_after numbers found xs) ys
least_after_append numbers None [] ys = refl
least_after_append numbers None (x ∷ xs) ys = ap Some (fold-append (λ b x. cond (is_less numbers x b) x b) x xs ys)
least_after_append numbers (Some found) xs ys = ap Some (fold-append (λ b x. cond (is_less numbers x b) x b) found xs ys)
