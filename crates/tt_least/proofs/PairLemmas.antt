-- Sums, counts and pairs of a list whose items all have a property, compared item by item.
use Rattle.std.proofs.Common.{◌≡◌, ℕ, zero, suc, ◌+◌, ◌<◌, ◌≤◌, Bool, true, false, cond, List, [], ◌∷◌, length, arith, refl}
use Rattle.std.specs.Prelude.{All, count_by, slice_index_or, sum_by}
use Rattle.std.proofs.lemmas.List.Elements.{All-head, All-tail}
use Rattle.std.proofs.lemmas.List.Sums.{sum_by-cons}
use Rattle.tt_base.specs.Among.{pairs_among}

-- a sum of terms that are no more is no more
pub sum-le : {A : Type 0} (P : A → Type 0) (f g : A → ℕ) → ((x : A) → P x → f x ≤ g x) → (xs : List A) → All P xs → sum_by f xs ≤ sum_by g xs
sum-le P f g le [] all = omega arith
sum-le P f g le (x ∷ xs) all =
    omega (arith, sum_by-cons f x xs, sum_by-cons g x xs, le x (All-head P x xs all), sum-le P f g le xs (All-tail P x xs all))

-- where a test is passed, so is another one
implied : (a b : Bool) → (a ≡ true → b ≡ true) → ◌≤◌ (cond a 1 0) (cond b 1 0)
implied false b h = omega arith
implied true b h = let e : b ≡ true = h refl in rw e (omega arith)

-- as many pass a test that is passed wherever another one is
pub count-le : {A : Type 0} (P : A → Type 0) (p q : A → Bool) → ((x : A) → P x → p x ≡ true → q x ≡ true) → (xs : List A) → All P xs → count_by p xs ≤ count_by q xs
count-le P p q to xs all = sum-le P (λ x. cond (p x) 1 0) (λ x. cond (q x) 1 0) (λ x in_p. implied (p x) (q x) (to x in_p)) xs all

-- none is counted where none passes
pub count-none : {A : Type 0} (P : A → Type 0) (p : A → Bool) → ((x : A) → P x → p x ≡ false) → (xs : List A) → All P xs → count_by p xs ≡ 0
count-none P p fails [] all = refl
count-none P p fails (x ∷ xs) all =
    let here = fails x (All-head P x xs all) in
    let term : ◌≡◌ {A = ℕ} (cond (p x) 1 0) 0 = rw here refl in
    omega (arith, sum_by-cons (λ y. cond (p y) 1 0) x xs, term, count-none P p fails xs (All-tail P x xs all))

-- one fewer passes where the item at a place passes only the other test
pub count-but : {A : Type 0} (P : A → Type 0) (p q : A → Bool) → ((x : A) → P x → p x ≡ true → q x ≡ true) → (c d : A) → p c ≡ false
    → (xs : List A) (k : ℕ) → All P xs → k < length xs → slice_index_or xs k d ≡ c → count_by p xs + cond (q c) 1 0 ≤ count_by q xs
count-but P p q to c d fails [] k all below at = absurd (omega arith)
count-but P p q to c d fails (x ∷ xs) zero all below at =
    let same : p x ≡ false = rw at fails in
    let term : ◌≡◌ {A = ℕ} (cond (p x) 1 0) 0 = rw same refl in
    let other : ◌≡◌ {A = ℕ} (cond (q x) 1 0) (cond (q c) 1 0) = rw at refl in
    omega (arith, sum_by-cons (λ y. cond (p y) 1 0) x xs, sum_by-cons (λ y. cond (q y) 1 0) x xs, term, other, count-le P p q to xs (All-tail P x xs all))
count-but P p q to c d fails (x ∷ xs) (suc k) all below at =
    let here = implied (p x) (q x) (to x (All-head P x xs all)) in
    omega (
      arith,
      sum_by-cons (λ y. cond (p y) 1 0) x xs,
      sum_by-cons (λ y. cond (q y) 1 0) x xs,
      here,
      count-but P p q to c d fails xs k (All-tail P x xs all) (omega arith) at,
    )

-- as many pairs are related where another relation relates them
pub pairs-le : {A : Type 0} (P : A → Type 0) (R S : A → A → Bool) → ((x y : A) → P x → P y → R x y ≡ true → S x y ≡ true)
    → (xs : List A) → All P xs → pairs_among R xs ≤ pairs_among S xs
pairs-le P R S to [] all = omega arith
pairs-le P R S to (x ∷ xs) all =
    let here = All-head P x xs all in
    let rest = All-tail P x xs all in
    omega (arith, count-le P (R x) (S x) (λ y in_p. to x y here in_p) xs rest, pairs-le P R S to xs rest)

-- the pairs of an item are counted by the weights of the others: an item in a pair with it weighs one more, and it is in
-- no pair and weighs nothing any more
pub record IsMoved (P : ℕ → Type 0) (c : ℕ) (weight weight_then : ℕ → ℕ) (related related_then : ℕ → ℕ → Bool) : Type 0 where
  pub none : weight_then c ≡ 0
  pub heavier : (x : ℕ) → P x → weight_then x ≤ weight x + cond (related c x) 1 0
  pub turned : (x : ℕ) → P x → related c x ≡ related x c
  pub fewer : (x y : ℕ) → P x → P y → related_then x y ≡ true → related x y ≡ true
  pub before : (x : ℕ) → P x → related_then x c ≡ false
  pub after : (x : ℕ) → P x → related_then c x ≡ false

module _ (P : ℕ → Type 0) (c : ℕ) (w v : ℕ → ℕ) (R S : ℕ → ℕ → Bool) (moved : IsMoved P c w v R S) where
  -- the weights of the others grow by no more than the pairs with it
  grown : (xs : List ℕ) → All P xs → sum_by v xs ≤ sum_by w xs + count_by (R c) xs
  grown [] all = omega arith
  grown (x ∷ xs) all =
      omega (arith, sum_by-cons v x xs, sum_by-cons w x xs, sum_by-cons (λ y. cond (R c y) 1 0) x xs, moved.heavier x (All-head P x xs all), grown xs (All-tail P x xs all))

  -- so weights and pairs together are less by the weight of the item
  pub moved-le : (xs : List ℕ) (k : ℕ) → All P xs → k < length xs → slice_index_or xs k 0 ≡ c
      → w c + sum_by v xs + pairs_among S xs ≤ sum_by w xs + pairs_among R xs
  moved-le [] k all below at = absurd (omega arith)
  moved-le (x ∷ xs) zero all below at =
      let rest = All-tail P x xs all in
      let nothing : v x ≡ 0 = rw at moved.none in
      let weight : w x ≡ w c = rw at refl in
      let pairs : count_by (S x) xs ≡ 0 = rw at (count-none P (S c) moved.after xs rest) in
      let had : count_by (R x) xs ≡ count_by (R c) xs = rw at refl in
      omega (arith, sum_by-cons v x xs, sum_by-cons w x xs, nothing, weight, pairs, had, grown xs rest, pairs-le P S R moved.fewer xs rest)
  moved-le (x ∷ xs) (suc k) all below at =
      let here = All-head P x xs all in
      let rest = All-tail P x xs all in
      let turned : ◌≡◌ {A = ℕ} (cond (R c x) 1 0) (cond (R x c) 1 0) = rw (moved.turned x here) refl in
      let count = count-but P (S x) (R x) (λ y in_p. moved.fewer x y here in_p) c 0 (moved.before x here) xs k rest (omega arith) at in
      omega (arith, sum_by-cons v x xs, sum_by-cons w x xs, turned, moved.heavier x here, count, moved-le xs k rest (omega arith) at)
