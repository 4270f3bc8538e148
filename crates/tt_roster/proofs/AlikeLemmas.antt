-- Lists that have each number as often as one another.
use Rattle.std.proofs.Common.{◌≡◌, ◌∙◌, ℕ, ◌+◌, ◌<◌, ◌≤◌, Bool, false, cond, List, [], ◌∷◌, get_or, refl, sym, ap, zero, suc, arith, inl, inr}
use Rattle.std.specs.Prelude.{nat_lt, slice_index_or, ◌==◌}
use Rattle.std.specs.List.{remove, position_or_len}
use Rattle.std.specs.List.Sorted.{IsPermutation, IsNonDecreasing}
use Rattle.std.proofs.lemmas.Bool.{cases_Bool, cases_eq, cases_lt, eq-eqb, eqb-true, lt-ltb, ne_eqb}
use Rattle.std.proofs.lemmas.List.Sums.{passes_at_first}
use Rattle.std.proofs.lemmas.List.Sorted.{IsPermutation-refl, IsPermutation-sym, IsPermutation-trans, IsPermutation-cons, IsPermutation-remove, sum_by-IsPermutation}
use Rattle.tt_base.specs.Lists.{is_listed}
use Rattle.tt_pool.specs.Chains.{uses}
use Rattle.tt_pool.specs.Places.{places_where}
use Rattle.tt_pool.proofs.Paths.{uses_cons, uses_here, uses_other}
use Rattle.tt_pool.proofs.Search.{found_at}

abbrev pub AreAlike : List ℕ → List ℕ → Type 0
AreAlike xs ys = (x : ℕ) → uses x xs ≡ uses x ys

-- a number of a list, and the rest
parted : (x : ℕ) (xs : List ℕ) → 0 < uses x xs → IsPermutation xs (x ∷ remove xs (position_or_len (λ y. y == x) xs))
parted x xs used =
    let at = position_or_len (λ y. y == x) xs in
    let lt = found_at x xs used in
    IsPermutation-remove xs at x lt (sym (eqb-true (get_or xs at x) x (passes_at_first (λ y. y == x) xs x lt)))

pub uses-parted : (x y : ℕ) (xs : List ℕ) → 0 < uses x xs → uses y xs ≡ cond (x == y) 1 0 + uses y (remove xs (position_or_len (λ z. z == x) xs))
uses-parted x y xs used =
    let rest = remove xs (position_or_len (λ z. z == x) xs) in
    sym (sum_by-IsPermutation (λ z. cond (z == y) 1 0) xs (x ∷ rest) (parted x xs used)) ∙ uses_cons y x rest

-- such lists differ in their order alone
pub alike-permutation : (xs ys : List ℕ) → AreAlike xs ys → IsPermutation xs ys
alike-permutation [] [] alike = IsPermutation-refl []
alike-permutation [] (y ∷ ys) alike = absurd (omega (arith, alike y, uses_here y ys))
alike-permutation (x ∷ xs) ys alike =
    let used : 0 < uses x ys = omega (arith, alike x, uses_here x xs) in
    let rest = remove ys (position_or_len (λ y. y == x) ys) in
    let less = alike-permutation xs rest (λ y. omega (arith, alike y, uses_cons y x xs, uses-parted x y ys used)) in
    IsPermutation-trans _ _ _ (IsPermutation-cons x xs rest less) (IsPermutation-sym ys (x ∷ rest) (parted x ys used))

-- a place counts once where the test passes there
count-below : {A : Type 0} (f : A → Bool) (k from : ℕ) (xs : List A) → k < from → uses k (places_where f from xs) ≡ 0
count-below f k from [] lt = refl
count-below f k from (x ∷ xs) lt =
    let rest = count-below f k (from + 1) xs (omega arith) in
    elim (cases_Bool (f x)) [
      | inl passes ↦ rw passes (uses_other k from (places_where f (from + 1) xs) (λ e. absurd (omega (arith, e))) ∙ rest)
      | inr fails ↦ rw fails rest
    ]

count-from : {A : Type 0} (f : A → Bool) (e : A) (from d : ℕ) (xs : List A) → f e ≡ false → uses (from + d) (places_where f from xs) ≡ cond (f (slice_index_or xs d e)) 1 0
count-from f e from d [] none = rw none refl
count-from f e from zero (x ∷ xs) none =
    let same : from + 0 ≡ from = omega arith in
    let rest = count-below f from (from + 1) xs (omega arith) in
    elim (cases_Bool (f x)) [
      | inl passes ↦ rw (same, passes) (omega (arith, uses_here from (places_where f (from + 1) xs), rest))
      | inr fails ↦ rw (same, fails) rest
    ]
count-from f e from (suc d) (x ∷ xs) none =
    let on : from + 1 + d ≡ from + suc d = omega arith in
    let rest = rw on at (count-from f e (from + 1) d xs none) in
    elim (cases_Bool (f x)) [
      | inl passes ↦ rw passes (uses_other (from + suc d) from (places_where f (from + 1) xs) (λ same. absurd (omega (arith, same))) ∙ rest)
      | inr fails ↦ rw fails rest
    ]

pub count-places : {A : Type 0} (f : A → Bool) (e : A) (d : ℕ) (xs : List A) → f e ≡ false → uses d (places_where f 0 xs) ≡ cond (f (slice_index_or xs d e)) 1 0
count-places f e d xs none = let same : 0 + d ≡ d = omega arith in rw same at (count-from f e 0 d xs none)

-- the first of a list in order is the least
least : (x y : ℕ) (xs : List ℕ) → IsNonDecreasing (x ∷ xs) → 0 < uses y (x ∷ xs) → x ≤ y
least x y xs up used =
    let at = position_or_len (λ z. z == y) (x ∷ xs) in
    let lt = found_at y (x ∷ xs) used in
    let is = eqb-true (get_or (x ∷ xs) at 0) y (passes_at_first (λ z. z == y) (x ∷ xs) 0 lt) in
    let above : x ≤ get_or (x ∷ xs) at 0 = up 0 at 0 (omega arith) lt in
    omega (arith, is, above)

-- a list in order that has each place as often is the list of the places
pub places_in_order : {A : Type 0} (f : A → Bool) (from : ℕ) (xs : List A) (ys : List ℕ) → IsNonDecreasing ys → AreAlike ys (places_where f from xs) → ys ≡ places_where f from xs
places_in_order f from [] [] up alike = refl
places_in_order f from [] (y ∷ ys) up alike = absurd (omega (arith, alike y, uses_here y ys))
places_in_order f from (x ∷ xs) ys up alike = elim (cases_Bool (f x)) [
  | inl passes ↦ rw passes (by ys (places_in_order f (from + 1) xs) up (rw passes at alike))
  | inr fails ↦ rw fails (places_in_order f (from + 1) xs ys up (rw fails at alike))
]
  where
    rest : List ℕ
    rest = places_where f (from + 1) xs

    by : (ys : List ℕ) → ((zs : List ℕ) → IsNonDecreasing zs → AreAlike zs rest → zs ≡ rest) → IsNonDecreasing ys → AreAlike ys (from ∷ rest) → ys ≡ from ∷ rest
    by [] more up alike = absurd (omega (arith, alike from, uses_here from rest))
    by (y ∷ ys) more up alike =
        let low : y ≤ from = least y from ys up (omega (arith, alike from, uses_here from rest)) in
        let same : y ≡ from = elim (cases_lt y from) [
          | inl below ↦
              let none = count-below f y (from + 1) xs (omega (arith, below)) in
              absurd (omega (arith, alike y, uses_here y ys, uses_other y from rest (λ e. absurd (omega (arith, e, below))), none))
          | inr above ↦ omega (arith, low, above)
        ] in
        let left : AreAlike ys rest = λ k. let first : cond (y == k) 1 0 ≡ cond {A = ℕ} (from == k) 1 0 = rw same refl in omega (arith, alike k, uses_cons k y ys, uses_cons k from rest, first) in
        ap (λ (n : ℕ). n ∷ ys) same ∙ ap (λ (l : List ℕ). from ∷ l) (more ys (λ i j d le lt. up (suc i) (suc j) d (omega (arith, le)) (omega (arith, lt))) left)

-- what stands in a list is listed
uses-listed : (x : ℕ) (xs : List ℕ) → is_listed x xs ≡ nat_lt 0 (uses x xs)
uses-listed x [] = refl
uses-listed x (y ∷ xs) = elim (cases_eq x y) [
  | inl same ↦
      let one : uses x (y ∷ xs) ≡ uses x xs + 1 = rw (← same) (omega (arith, uses_here x xs)) in
      let above : 0 < uses x xs + 1 = omega arith in
      rw (one, eq-eqb x y same, lt-ltb 0 (uses x xs + 1) above) refl
  | inr apart ↦
      let same : uses x (y ∷ xs) ≡ uses x xs = uses_other x y xs (λ e. apart (sym e)) in
      rw (same, ne_eqb x y apart) (uses-listed x xs)
]

-- and so it is in each list that is alike
pub alike-listed : (x : ℕ) (xs ys : List ℕ) → AreAlike xs ys → is_listed x xs ≡ is_listed x ys
alike-listed x xs ys alike = uses-listed x xs ∙ ap (nat_lt 0) (alike x) ∙ sym (uses-listed x ys)
