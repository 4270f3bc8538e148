-- Sums and counts over the numbers below a bound.
use Rattle.std.proofs.Common.{◌≡◌, ℕ, ◌+◌, List, [], ◌∷◌, ◌++◌, ap, ◌∙◌, arith, zero, suc, Bool, cond, add-one}
use Rattle.std.specs.Prelude.{sum_by, count_by}
use Rattle.std.specs.List.{range_with_len}
use Rattle.std.proofs.lemmas.List.Sums.{sum_by_push}

range-suc : (a n : ℕ) → range_with_len a (suc n) ≡ range_with_len a n ++ (a + n) ∷ []
range-suc a zero = ap (λ (k : ℕ). k ∷ []) (omega arith)
range-suc a (suc n) =
    let e : a + 1 + n ≡ a + suc n = omega arith in
    ap (λ (l : List ℕ). a ∷ l) (range-suc (a + 1) n ∙ ap (λ (k : ℕ). range_with_len (a + 1) n ++ k ∷ []) e)

pub sum_range_more : (f : ℕ → ℕ) (n : ℕ) → sum_by f (range_with_len 0 (n + 1)) ≡ sum_by f (range_with_len 0 n) + f n
sum_range_more f n =
    let e : range_with_len 0 (n + 1) ≡ range_with_len 0 n ++ n ∷ [] = rw add-one (range-suc 0 n ∙ ap (λ (k : ℕ). range_with_len 0 n ++ k ∷ []) (omega arith)) in
    ap (sum_by f) e ∙ sum_by_push f (range_with_len 0 n) n

pub count_range_more : (p : ℕ → Bool) (n : ℕ) → count_by p (range_with_len 0 (n + 1)) ≡ count_by p (range_with_len 0 n) + cond (p n) 1 0
count_range_more p n = sum_range_more (λ (d : ℕ). cond (p d) 1 0) n
