-- The places of a span that pass a test, one after another.
use Rattle.std.proofs.Common.{◌≡◌, ℕ, suc, ◌+◌, ◌-◌, ◌<◌, Bool, true, false, cond, List, ◌∷◌, Option, length, refl, sym, ap, ◌∙◌, arith}
use Rattle.std.specs.Prelude.{slice_get}
use Rattle.std.specs.List.{filter, range_with_len}

next_of : (f : ℕ → Bool) (a b : ℕ) → a < b → filter f (range_with_len a (b - a)) ≡ cond (f a) (a ∷ filter f (range_with_len (a + 1) (b - (a + 1)))) (filter f (range_with_len (a + 1) (b - (a + 1))))
next_of f a b below = let e : b - a ≡ suc (b - (a + 1)) = omega arith in rw e refl

-- how many pass
pub count_takes : (f : ℕ → Bool) (a b n whole : ℕ) → a < b → f a ≡ true → n + length (filter f (range_with_len a (b - a))) ≡ whole → n + 1 + length (filter f (range_with_len (a + 1) (b - (a + 1)))) ≡ whole
count_takes f a b n whole below passes so_far = let next = rw passes at (next_of f a b below) in omega (arith, so_far, ap length next)

pub count_skips : (f : ℕ → Bool) (a b n whole : ℕ) → a < b → f a ≡ false → n + length (filter f (range_with_len a (b - a))) ≡ whole → n + length (filter f (range_with_len (a + 1) (b - (a + 1)))) ≡ whole
count_skips f a b n whole below fails so_far = let next = rw fails at (next_of f a b below) in omega (arith, so_far, ap length next)

-- the one at a place among those that pass
pub at_later : (f : ℕ → Bool) (a b k : ℕ) (found : Option ℕ) → a < b → f a ≡ true → 0 < k → slice_get (filter f (range_with_len a (b - a))) k ≡ found
    → slice_get (filter f (range_with_len (a + 1) (b - (a + 1)))) (k - 1) ≡ found
at_later f a b k found below passes some so_far =
    let next = rw passes at (next_of f a b below) in
    let more : k ≡ suc (k - 1) = omega arith in
    sym (ap (λ (xs : List ℕ). slice_get xs k) next ∙ ap (slice_get (a ∷ filter f (range_with_len (a + 1) (b - (a + 1))))) more) ∙ so_far

pub at_skips : (f : ℕ → Bool) (a b k : ℕ) (found : Option ℕ) → a < b → f a ≡ false → slice_get (filter f (range_with_len a (b - a))) k ≡ found → slice_get (filter f (range_with_len (a + 1) (b - (a + 1)))) k ≡ found
at_skips f a b k found below fails so_far = let next = rw fails at (next_of f a b below) in sym (ap (λ (xs : List ℕ). slice_get xs k) next) ∙ so_far
