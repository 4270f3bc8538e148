-- How many pairs a list has at most.
use Rattle.std.proofs.Common.{◌≡◌, ℕ, ◌+◌, ◌-◌, ◌*◌, ◌≤◌, Bool, List, [], ◌∷◌, length, count_by, zero, suc, arith}
use Rattle.std.proofs.lemmas.List.Sums.{count_by-le-length}
use Rattle.tt_base.specs.Among.{pairs_among}

-- one more item makes as many more pairs as there were items
more_pairs : (n c s : ℕ) → c ≤ n → 2 * s ≤ n * (n - 1) → 2 * (c + s) ≤ suc n * (suc n - 1)
more_pairs zero c s few h = omega arith
more_pairs (suc n) c s few h =
    let fewer : suc n - 1 ≡ n = omega arith in
    let more : suc (suc n) - 1 ≡ suc n = omega arith in
    let had = rw fewer at h in
    rw more (omega arith)

-- a list of at most n items has at most half of n (n - 1) pairs
pub twice-pairs : {A : Type 0} (related : A → A → Bool) (xs : List A) (n : ℕ) → length xs ≤ n → 2 * pairs_among related xs ≤ n * (n - 1)
twice-pairs related [] n few = omega arith
twice-pairs related (x ∷ xs) zero few = absurd (omega arith)
twice-pairs related (x ∷ xs) (suc n) few =
    more_pairs n (count_by (related x) xs) (pairs_among related xs) (omega (arith, count_by-le-length (related x) xs)) (twice-pairs related xs n (omega arith))
