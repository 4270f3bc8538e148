-- Sums over lists, over the places that pass a test, and over the numbers of a list that ascends.
use Rattle.std.proofs.Common.{◌≡◌, ℕ, ◌+◌, ◌*◌, ◌≤◌, Bool, true, false, cond, List, [], ◌∷◌, length, get_or, refl, sym, ap, zero, suc, arith, inl, inr}
use Rattle.std.specs.Prelude.{sum_by, filter, All}
use Rattle.std.specs.List.{range_with_len}
use Rattle.std.proofs.lemmas.Bool.{cases_eq, eq-eqb, ne_eqb}
use Rattle.std.proofs.lemmas.List.Sums.{sum_by-cons}
use Rattle.std.proofs.lemmas.List.Elements.{All-head, All-tail}
use Rattle.tt_base.specs.Lists.{is_listed}
use Rattle.tt_roster.specs.Lists.{Ascends}
use Rattle.tt_roster.proofs.ListLemmas.{Ascends-lower, has-below}

-- the items that don't pass add nothing
pub sum-filter : {X : Type 0} (f : X → ℕ) (p : X → Bool) (xs : List X) → ((x : X) → p x ≡ false → f x ≡ 0) → sum_by f (filter p xs) ≡ sum_by f xs
sum-filter f p [] none = refl
sum-filter f p (x ∷ xs) none = by (p x) refl (sum-filter f p xs none)
  where
    by : (b : Bool) → p x ≡ b → sum_by f (filter p xs) ≡ sum_by f xs → sum_by f (cond b (x ∷ filter p xs) (filter p xs)) ≡ sum_by f (x ∷ xs)
    by true is rest = omega (arith, sum_by-cons f x (filter p xs), sum_by-cons f x xs, rest)
    by false is rest = omega (arith, sum_by-cons f x xs, none x is, rest)

pub sum-none : {X : Type 0} (f : X → ℕ) (xs : List X) → ((x : X) → f x ≡ 0) → sum_by f xs ≡ 0
sum-none f [] none = refl
sum-none f (x ∷ xs) none = omega (arith, sum_by-cons f x xs, none x, sum-none f xs none)

pub sum-alike : {X : Type 0} (f g : X → ℕ) (xs : List X) → ((x : X) → f x ≡ g x) → sum_by f xs ≡ sum_by g xs
sum-alike f g [] alike = refl
sum-alike f g (x ∷ xs) alike = omega (arith, sum_by-cons f x xs, sum_by-cons g x xs, alike x, sum-alike f g xs alike)

pub sum-agree : {X : Type 0} (P : X → Type 0) (f g : X → ℕ) (xs : List X) → All P xs → ((x : X) → P x → f x ≡ g x) → sum_by f xs ≡ sum_by g xs
sum-agree P f g [] all agree = refl
sum-agree P f g (x ∷ xs) all agree =
    omega (arith, sum_by-cons f x xs, sum_by-cons g x xs, agree x (All-head P x xs all), sum-agree P f g xs (All-tail P x xs all) agree)

sum-both : {X : Type 0} (f g : X → ℕ) (xs : List X) → sum_by (λ x. f x + g x) xs ≡ sum_by f xs + sum_by g xs
sum-both f g [] = refl
sum-both f g (x ∷ xs) = omega (arith, sum_by-cons (λ x. f x + g x) x xs, sum_by-cons f x xs, sum_by-cons g x xs, sum-both f g xs)

pub sum-twice : {X : Type 0} (f : X → ℕ) (xs : List X) → sum_by (λ x. 2 * f x) xs ≡ 2 * sum_by f xs
sum-twice f [] = refl
sum-twice f (x ∷ xs) = omega (arith, sum_by-cons (λ x. 2 * f x) x xs, sum_by-cons f x xs, sum-twice f xs)

-- a sum over two lists may be taken in either order
pub sum-turned : {X Y : Type 0} (f : X → Y → ℕ) (xs : List X) (ys : List Y) → sum_by (λ x. sum_by (f x) ys) xs ≡ sum_by (λ y. sum_by (λ x. f x y) xs) ys
sum-turned f [] ys = sym (sum-none (λ y. sum_by (λ x. f x y) []) ys (λ y. refl))
sum-turned f (x ∷ xs) ys =
    let first = sum_by-cons (λ x. sum_by (f x) ys) x xs in
    let each = sum-alike (λ y. sum_by (λ x. f x y) (x ∷ xs)) (λ y. f x y + sum_by (λ x. f x y) xs) ys (λ y. sum_by-cons (λ x. f x y) x xs) in
    omega (arith, first, each, sum-both (f x) (λ y. sum_by (λ x. f x y) xs) ys, sum-turned f xs ys)

-- a test that is the same at each item
pub sum-cond : {X : Type 0} (b : Bool) (f : X → ℕ) (xs : List X) → sum_by (λ x. cond b (f x) 0) xs ≡ cond b (sum_by f xs) 0
sum-cond true f xs = refl
sum-cond false f xs = sum-none (λ x. 0) xs (λ x. refl)

range-agree : (f g : ℕ → ℕ) (a n : ℕ) → ((k : ℕ) → a ≤ k → f k ≡ g k) → sum_by f (range_with_len a n) ≡ sum_by g (range_with_len a n)
range-agree f g a zero agree = refl
range-agree f g a (suc n) agree =
    omega (arith, sum_by-cons f a (range_with_len (a + 1) n), sum_by-cons g a (range_with_len (a + 1) n), agree a (omega arith), range-agree f g (a + 1) n (λ k low. agree k (omega arith)))

-- over the numbers of a list that ascends, as over all numbers with a test
pub sum-listed : (g : ℕ → ℕ) (from after n : ℕ) (list : List ℕ) → from + n ≡ after → Ascends from after list
    → sum_by (λ c. cond (is_listed c list) (g c) 0) (range_with_len from n) ≡ sum_by g list
sum-listed g from after zero [] whole up = refl
sum-listed g from after zero (a ∷ list) whole up = absurd (omega (arith, whole, up.0, up.1))
sum-listed g from after (suc n) [] whole up = sum-none (λ c. cond (is_listed c []) (g c) 0) (range_with_len from (suc n)) (λ c. refl)
sum-listed g from after (suc n) (a ∷ list) whole up =
    let f : ℕ → ℕ = λ c. cond (is_listed c (a ∷ list)) (g c) 0 in
    let later = range_with_len (from + 1) n in
    let first = sum_by-cons f from later in
    elim (cases_eq a from) [
      | inl same ↦
          let here : f from ≡ g a = rw (same, eq-eqb from from refl) refl in
          let rest : sum_by f later ≡ sum_by (λ c. cond (is_listed c list) (g c) 0) later =
          range-agree f (λ c. cond (is_listed c list) (g c) 0) (from + 1) n (λ k above. rw (ne_eqb k a (λ e. absurd (omega (arith, e, same, above)))) refl) in
          let go = sum-listed g (from + 1) after n list (omega (arith, whole)) (Ascends-lower (a + 1) (from + 1) after list up.2 (omega (arith, same))) in
          omega (arith, first, here, rest, go, sum_by-cons g a list)
      | inr apart ↦
          let above : Ascends (from + 1) after (a ∷ list) = (omega (arith, up.0, apart), up.1, up.2) in
          let lacks : is_listed from (a ∷ list) ≡ false = has-below from (from + 1) after (a ∷ list) above (omega arith) in
          let here : f from ≡ 0 = ap {B = ℕ} (λ (b : Bool). cond b (g from) 0) lacks in
          omega (arith, first, here, sum-listed g (from + 1) after n (a ∷ list) (omega (arith, whole)) above)
    ]

-- over the items of a list by their places
sum-from : {X : Type 0} (f : X → ℕ) (at : ℕ → X) (from : ℕ) (xs : List X) (d : X) → ((i : ℕ) → at (from + i) ≡ get_or xs i d) → sum_by (λ k. f (at k)) (range_with_len from (length xs)) ≡ sum_by f xs
sum-from f at from [] d same = refl
sum-from f at from (x ∷ xs) d same =
    let start : from + 0 ≡ from = omega arith in
    let here : f (at from) ≡ f x = ap f (rw start at (same 0)) in
    let rest = sum-from f at (from + 1) xs d (λ i. let e : from + suc i ≡ from + 1 + i = omega arith in rw e at (same (suc i))) in
    omega (arith, sum_by-cons (λ k. f (at k)) from (range_with_len (from + 1) (length xs)), sum_by-cons f x xs, here, rest)

pub sum-places : {X : Type 0} (f : X → ℕ) (xs : List X) (d : X) → sum_by (λ k. f (get_or xs k d)) (range_with_len 0 (length xs)) ≡ sum_by f xs
sum-places f xs d = sum-from f (λ k. get_or xs k d) 0 xs d (λ i. let e : 0 + i ≡ i = omega arith in rw e refl)
