-- The classes that wait for a value.
use Rattle.std.proofs.Common.{◌≡◌, ℕ, zero, suc, ◌+◌, ◌<◌, true, false, List, [], ◌∷◌, length, refl, sym, subst, arith}
use Rattle.std.specs.Prelude.{◌==◌, All, slice_index_or}
use Rattle.std.specs.List.{remove}
use Rattle.std.proofs.lemmas.Bool.{eqb-true}

-- no class waits
pub both_empty : (xs ys : List ℕ) → (length xs + length ys == 0) ≡ true → (xs ≡ []) × (ys ≡ [])
both_empty [] [] none = (refl, refl)
both_empty [] (y ∷ ys) none = absurd (omega (arith, eqb-true (length {A = ℕ} [] + length (y ∷ ys)) 0 none))
both_empty (x ∷ xs) ys none = absurd (omega (arith, eqb-true (length (x ∷ xs) + length ys) 0 none))

-- some class waits
pub some_wait : (n : ℕ) → (n == 0) ≡ false → 0 < n
some_wait zero none = absurd (cc)
some_wait (suc n) none = omega arith

-- of some classes of the problem the first and the others are of the problem
pub first_within : (n : ℕ) (classes others : List ℕ) (class : ℕ) → All (λ other. other < n) classes → 0 < length classes → class ≡ slice_index_or classes 0 class → others ≡ remove classes 0
    → (class < n) × All (λ other. other < n) others
first_within n [] others class all some first rest = absurd (omega arith)
first_within n (x ∷ xs) others class all some first rest =
    let here = all 0 class (omega arith) in
    (omega (arith, first, here), subst (λ ys. All (λ other. other < n) ys) (sym rest) (λ k d within. all (suc k) d (omega (arith, within))))
