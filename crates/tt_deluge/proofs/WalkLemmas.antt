-- A walk over a list that begins at a place, and one over places; what it finds.
use Rattle.std.proofs.Common.{◌≡◌, ℕ, zero, suc, ◌+◌, ◌-◌, ◌<◌, ◌≤◌, Bool, true, false, cond, List, [], ◌∷◌, ◌++◌, Some, None, length, take, drop, refl, sym, ap, ◌∙◌, arith, inl, inr, length-append}
use Rattle.std.specs.Prelude.{slice_get}
use Rattle.std.specs.List.{find, range_with_len}
use Rattle.std.proofs.lemmas.Bool.{cases_lt}
use Rattle.std.proofs.lemmas.List.{drop_all, length-drop, length-take-le}
use Rattle.tt_base.proofs.ListLemmas.{drop_at}

get-left : {A : Type 0} (xs ys : List A) (k : ℕ) → k < length xs → slice_get (xs ++ ys) k ≡ slice_get xs k
get-left [] ys k within = absurd (omega arith)
get-left (x ∷ xs) ys zero within = refl
get-left (x ∷ xs) ys (suc k) within = get-left xs ys k (omega arith)

get-right : {A : Type 0} (xs ys : List A) (k j : ℕ) → k ≡ length xs + j → slice_get (xs ++ ys) k ≡ slice_get ys j
get-right [] ys k j is = let same : k ≡ j = omega (arith, is) in ap (slice_get ys) same
get-right (x ∷ xs) ys zero j is = absurd (omega (arith, is))
get-right (x ∷ xs) ys (suc k) j is = get-right xs ys k j (omega (arith, is))

get-drop : {A : Type 0} (xs : List A) (n k : ℕ) → slice_get (drop n xs) k ≡ slice_get xs (n + k)
get-drop xs zero k = let same : k ≡ 0 + k = omega arith in ap (slice_get xs) same
get-drop [] (suc n) k = refl
get-drop (x ∷ xs) (suc n) k = let same : suc n + k ≡ suc (n + k) = omega arith in get-drop xs n k ∙ ap (slice_get (x ∷ xs)) (sym same)

pub get-take : {A : Type 0} (xs : List A) (n k : ℕ) → k < n → slice_get (take n xs) k ≡ slice_get xs k
get-take xs zero k below = absurd (omega arith)
get-take [] (suc n) k below = refl
get-take (x ∷ xs) (suc n) zero below = refl
get-take (x ∷ xs) (suc n) (suc k) below = get-take xs n k (omega arith)

-- what stands at a place of a list that begins at another one
pub turned-get : {A : Type 0} (xs : List A) (place k at : ℕ) → place < length xs → k < length xs → (place + k < length xs → at ≡ place + k) → (length xs ≤ place + k → at + length xs ≡ place + k)
    → slice_get (drop place xs ++ take place xs) k ≡ slice_get xs at
turned-get xs place k at in_place in_list front back =
    elim (cases_lt (place + k) (length xs)) [
      | inl below ↦ get-left (drop place xs) (take place xs) k (omega (arith, length-drop place xs, below)) ∙ get-drop xs place k ∙ ap (slice_get xs) (sym (front below))
      | inr past ↦
          let same = back past in
          get-right (drop place xs) (take place xs) k at (omega (arith, length-drop place xs, same)) ∙ get-take xs place at (omega (arith, same))
    ]

pub length-turned : {A : Type 0} (xs : List A) (place : ℕ) → place ≤ length xs → length (drop place xs ++ take place xs) ≡ length xs
length-turned xs place within = omega (arith, length-append (drop place xs) (take place xs), length-drop place xs, length-take-le place xs within)

-- the walk finds what stands next, or goes on
pub find-hit : {A : Type 0} (test : A → Bool) (xs : List A) (k : ℕ) (x : A) → slice_get xs k ≡ Some x → test x ≡ true → find test (drop k xs) ≡ Some x
find-hit test xs k x is passes = ap (find test) (drop_at xs k x is) ∙ ap (λ b. cond b (Some x) (find test (drop (k + 1) xs))) passes

pub find-miss : {A : Type 0} (test : A → Bool) (xs : List A) (k : ℕ) (x : A) → slice_get xs k ≡ Some x → test x ≡ false → find test (drop (k + 1) xs) ≡ find test (drop k xs)
find-miss test xs k x is fails = sym (ap (find test) (drop_at xs k x is) ∙ ap (λ b. cond b (Some x) (find test (drop (k + 1) xs))) fails)

pub find-end : {A : Type 0} (test : A → Bool) (xs : List A) (k : ℕ) → length xs ≤ k → find test (drop k xs) ≡ None
find-end test xs k past = ap (find test) (drop_all k xs past)

-- the same over places
next_place : (test : ℕ → Bool) (k n : ℕ) → k < n → find test (range_with_len k (n - k)) ≡ cond (test k) (Some k) (find test (range_with_len (k + 1) (n - (k + 1))))
next_place test k n below = let more : n - k ≡ suc (n - (k + 1)) = omega arith in ap (λ (m : ℕ). find test (range_with_len k m)) more

pub place-hit : (test : ℕ → Bool) (k n : ℕ) → k < n → test k ≡ true → find test (range_with_len k (n - k)) ≡ Some k
place-hit test k n below passes = next_place test k n below ∙ ap (λ b. cond b (Some k) (find test (range_with_len (k + 1) (n - (k + 1))))) passes

pub place-miss : (test : ℕ → Bool) (k n : ℕ) → k < n → test k ≡ false → find test (range_with_len (k + 1) (n - (k + 1))) ≡ find test (range_with_len k (n - k))
place-miss test k n below fails = sym (next_place test k n below ∙ ap (λ b. cond b (Some k) (find test (range_with_len (k + 1) (n - (k + 1))))) fails)

pub place-end : (test : ℕ → Bool) (k n : ℕ) → n ≤ k → find test (range_with_len k (n - k)) ≡ None
place-end test k n past = let none : n - k ≡ 0 = omega arith in ap (λ (m : ℕ). find test (range_with_len k m)) none

pub place-start : (test : ℕ → Bool) (n : ℕ) → find test (range_with_len 0 (n - 0)) ≡ find test (range_with_len 0 n)
place-start test n = let whole : n - 0 ≡ n = omega arith in ap (λ (m : ℕ). find test (range_with_len 0 m)) whole
