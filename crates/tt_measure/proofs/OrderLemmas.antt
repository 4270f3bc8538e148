-- Spots in order of start, and a part of them.
use Rattle.std.proofs.Common.{◌≡◌, ◌∙◌, ℕ, ◌≤◌, Bool, true, ◌&&◌, cond, List, [], ◌∷◌, refl, sym, ap, arith, inl, inr}
use Rattle.std.specs.Prelude.{filter, nat_le}
use Rattle.std.specs.List.{list_all}
use Rattle.std.proofs.lemmas.Bool.{cases_Bool, and_parts, and_from, leb-true, leb-false, le-leb}
use Rattle.tt_bits.specs.declared.times.Spot.{Spot}
use Rattle.tt_measure.specs.Blocks.{in_order, insert_by_start}

-- all start at a slot or later
starts_from : ℕ → List Spot → Bool
starts_from s l = list_all (λ y. nat_le s y.time.start) l

-- each starts no later than those after it
abbrev is_sorted : List Spot → Bool
is_sorted [] = true
is_sorted (x ∷ xs) = starts_from x.time.start xs && is_sorted xs

insert_first : (x : Spot) (l : List Spot) → starts_from x.time.start l ≡ true → insert_by_start x l ≡ x ∷ l
unfolding starts_from
insert_first x [] all = refl
insert_first x (y ∷ ys) all = let parts = and_parts (nat_le x.time.start y.time.start) (starts_from x.time.start ys) all in rw parts.0 refl

starts_from-filter : (q : Spot → Bool) (s : ℕ) (l : List Spot) → starts_from s l ≡ true → starts_from s (filter q l) ≡ true
unfolding starts_from
starts_from-filter q s [] all = refl
starts_from-filter q s (y ∷ ys) all =
    let parts = and_parts (nat_le s y.time.start) (starts_from s ys) all in
    elim (cases_Bool (q y)) [
      | inl t ↦ rw (t, parts.0) (starts_from-filter q s ys parts.1)
      | inr n ↦ rw n (starts_from-filter q s ys parts.1)
    ]

starts_from-later : (s t : ℕ) (l : List Spot) → s ≤ t → starts_from t l ≡ true → starts_from s l ≡ true
unfolding starts_from
starts_from-later s t [] le all = refl
starts_from-later s t (y ∷ ys) le all =
    let parts = and_parts (nat_le t y.time.start) (starts_from t ys) all in
    let first = leb-true t y.time.start parts.0 in
    rw (le-leb s y.time.start (omega arith)) (starts_from-later s t ys le parts.1)

starts_from-insert : (s : ℕ) (x : Spot) (l : List Spot) → nat_le s x.time.start ≡ true → starts_from s l ≡ true → starts_from s (insert_by_start x l) ≡ true
unfolding starts_from
starts_from-insert s x [] le all = rw le refl
starts_from-insert s x (y ∷ ys) le all =
    let parts = and_parts (nat_le s y.time.start) (starts_from s ys) all in
    elim (cases_Bool (nat_le x.time.start y.time.start)) [
      | inl t ↦ rw (t, le) all
      | inr n ↦ rw (n, parts.0) (starts_from-insert s x ys le parts.1)
    ]

is_sorted-insert : (x : Spot) (l : List Spot) → is_sorted l ≡ true → is_sorted (insert_by_start x l) ≡ true
unfolding starts_from
is_sorted-insert x [] sorted = refl
is_sorted-insert x (y ∷ ys) sorted =
    let parts = and_parts (starts_from y.time.start ys) (is_sorted ys) sorted in
    elim (cases_Bool (nat_le x.time.start y.time.start)) [
      | inl t ↦ rw t (and_from _ _ (and_from _ _ t (starts_from-later x.time.start y.time.start ys (leb-true _ _ t) parts.0)) sorted)
      | inr n ↦
          let later = leb-false x.time.start y.time.start n in
          rw n (and_from _ _ (starts_from-insert y.time.start x ys (le-leb _ _ (omega arith)) parts.0) (is_sorted-insert x ys parts.1))
    ]

is_sorted-in_order : (xs : List Spot) → is_sorted (in_order xs) ≡ true
is_sorted-in_order [] = refl
is_sorted-in_order (x ∷ xs) = is_sorted-insert x (in_order xs) (is_sorted-in_order xs)

filter-insert : (q : Spot → Bool) (x : Spot) (l : List Spot) → is_sorted l ≡ true
    → filter q (insert_by_start x l) ≡ cond (q x) (insert_by_start x (filter q l)) (filter q l)
unfolding starts_from
filter-insert q x [] sorted = refl
filter-insert q x (y ∷ ys) sorted =
    let parts = and_parts (starts_from y.time.start ys) (is_sorted ys) sorted in
    elim (cases_Bool (nat_le x.time.start y.time.start)) [
      | inl t ↦
          let all : starts_from x.time.start (y ∷ ys) ≡ true = and_from _ _ t (starts_from-later x.time.start y.time.start ys (leb-true _ _ t) parts.0) in
          rw t (ap (λ l. cond (q x) l (filter q (y ∷ ys))) (sym (insert_first x (filter q (y ∷ ys)) (starts_from-filter q x.time.start (y ∷ ys) all))))
      | inr n ↦ rw n (elim (cases_Bool (q y)) [
        | inl t ↦ elim (cases_Bool (q x)) [
          | inl u ↦ rw (t, u, n) (ap (λ l. y ∷ l) (filter-insert q x ys parts.1 ∙ rw u refl))
          | inr m ↦ rw (t, m) (ap (λ l. y ∷ l) (filter-insert q x ys parts.1 ∙ rw m refl))
        ]
        | inr m ↦ rw m (filter-insert q x ys parts.1)
      ])
    ]

-- a part of a list in order is the part, in order
pub filtered_in_order : (q : Spot → Bool) (xs : List Spot) → filter q (in_order xs) ≡ in_order (filter q xs)
filtered_in_order q [] = refl
filtered_in_order q (x ∷ xs) =
    filter-insert q x (in_order xs) (is_sorted-in_order xs)
    ∙ rw (filtered_in_order q xs) (elim (cases_Bool (q x)) [ inl t ↦ rw t refl | inr n ↦ rw n refl ])
