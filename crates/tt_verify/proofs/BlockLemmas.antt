-- A stable sort by start gives the order of the definition.
use Rattle.std.proofs.Common.{◌≡◌, ◌∙◌, ℕ, ◌≤◌, suc, true, List, [], ◌∷◌, refl, sym, ap, arith, inl, inr}
use Rattle.std.specs.Prelude.{nat_le, filter}
use Rattle.std.specs.List.{list_all}
use Rattle.std.specs.List.Sorted.{IsNonDecreasingBy, IsStableByKey}
use Rattle.std.specs.Ordering.{nat_cmp}
use Rattle.std.proofs.lemmas.Bool.{cases_Bool, leb-true, leb-false, le-leb, and_parts, and_from}
use Rattle.std.proofs.lemmas.Bool.Decides.{nat_tests}
use Rattle.tt_bits.specs.declared.times.Spot.{Spot}
use Rattle.tt_measure.specs.Blocks.{in_order, insert_by_start}
use Rattle.tt_measure.proofs.OrderLemmas.{filtered_in_order}
use Rattle.tt_verify.proofs.SortLemmas.{rises_on, ties_on, ties_unique, all_on}

abbrev start_of : Spot → ℕ
start_of x = x.time.start

from_insert : (m : ℕ) (x : Spot) (l : List Spot) → nat_le m (start_of x) ≡ true → list_all (λ y. nat_le m (start_of y)) l ≡ true → list_all (λ y. nat_le m (start_of y)) (insert_by_start x l) ≡ true
from_insert m x [] here all = rw here refl
from_insert m x (y ∷ ys) here all =
    let parts = and_parts (nat_le m (start_of y)) (list_all (λ y. nat_le m (start_of y)) ys) all in
    elim (cases_Bool (nat_le x.time.start y.time.start)) [
      | inl t ↦ rw (t, here) all
      | inr n ↦ rw (n, parts.0) (from_insert m x ys here parts.1)
    ]

from_later : (m n : ℕ) (l : List Spot) → m ≤ n → list_all (λ y. nat_le n (start_of y)) l ≡ true → list_all (λ y. nat_le m (start_of y)) l ≡ true
from_later m n [] le all = refl
from_later m n (y ∷ ys) le all =
    let parts = and_parts (nat_le n (start_of y)) (list_all (λ y. nat_le n (start_of y)) ys) all in
    let above = leb-true n (start_of y) parts.0 in
    and_from _ _ (le-leb m (start_of y) (omega arith)) (from_later m n ys le parts.1)

insert_rises : (x : Spot) (l : List Spot) → rises_on start_of l ≡ true → rises_on start_of (insert_by_start x l) ≡ true
insert_rises x [] rises = refl
insert_rises x (y ∷ ys) rises =
    let parts = and_parts (list_all (λ z. nat_le (start_of y) (start_of z)) ys) (rises_on start_of ys) rises in
    elim (cases_Bool (nat_le x.time.start y.time.start)) [
      | inl t ↦ rw t (and_from _ _ (and_from _ _ t (from_later (start_of x) (start_of y) ys (leb-true _ _ t) parts.0)) rises)
      | inr n ↦
          let below = leb-false x.time.start y.time.start n in
          rw n (and_from _ _ (from_insert (start_of y) x ys (le-leb _ _ (omega arith)) parts.0) (insert_rises x ys parts.1))
    ]

in_order-rises : (xs : List Spot) → rises_on start_of (in_order xs) ≡ true
in_order-rises [] = refl
in_order-rises (x ∷ xs) = insert_rises x (in_order xs) (in_order-rises xs)

le_level : (x y z : Spot) → ties_on start_of x y ≡ true → ties_on start_of x z ≡ true → nat_le y.time.start z.time.start ≡ true
le_level x y z one two = grind (arith, nat_tests)

insert_level : (x y : Spot) (xs : List Spot) → ties_on start_of x y ≡ true → insert_by_start y (filter (ties_on start_of x) xs) ≡ y ∷ filter (ties_on start_of x) xs
insert_level x y [] level = refl
insert_level x y (z ∷ zs) level = elim (cases_Bool (ties_on start_of x z)) [
  | inl t ↦ rw (t, le_level x y z level t) refl
  | inr n ↦ rw n (insert_level x y zs level)
]

in_order-level : (x : Spot) (xs : List Spot) → in_order (filter (ties_on start_of x) xs) ≡ filter (ties_on start_of x) xs
in_order-level x [] = refl
in_order-level x (y ∷ ys) = elim (cases_Bool (ties_on start_of x y)) [
  | inl t ↦ rw t (ap (insert_by_start y) (in_order-level x ys) ∙ insert_level x y ys t)
  | inr n ↦ rw n (in_order-level x ys)
]

rises_from_non_decreasing : (xs : List Spot) → IsNonDecreasingBy start_of xs → rises_on start_of xs ≡ true
rises_from_non_decreasing [] up = refl
rises_from_non_decreasing (x ∷ xs) up =
    and_from _ _
    (all_on start_of (start_of x) xs (λ j d within. up 0 (suc j) d (omega arith) (omega arith)))
    (rises_from_non_decreasing xs (λ i j d le within. up (suc i) (suc j) d (omega arith) (omega arith)))

pub sorted_is_in_order : (xs ys : List Spot) → IsNonDecreasingBy (λ x. x.time.start) ys → IsStableByKey (λ (x : Spot). x.time.start) nat_cmp xs ys → ys ≡ in_order xs
sorted_is_in_order xs ys up stable =
    ties_unique start_of ys (in_order xs) (rises_from_non_decreasing ys up) (in_order-rises xs)
    (λ x. stable x ∙ sym (filtered_in_order (ties_on start_of x) xs ∙ in_order-level x xs))
