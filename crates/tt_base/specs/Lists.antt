-- Theorem. Numbers in lists, the order of lists, and the least of a list.
use Rattle.std.specs.Prelude.{ℕ, Bool, List, [], ◌∷◌, Option, Some, None, nat_eq}
use Rattle.std.specs.Cmp.Lexicographic.{slice_cmp}
use Rattle.std.specs.List.{best_of, list_any}
use Rattle.std.specs.Ordering.{nat_cmp, is_lt}

-- the number is in the list
abbrev pub is_listed : ℕ → List ℕ → Bool
is_listed n list = list_any (nat_eq n) list

-- the first list comes before the second, compared from the left
abbrev pub comes_before : List ℕ → List ℕ → Bool
comes_before xs ys = is_lt (slice_cmp nat_cmp xs ys)

-- x comes before y by its numbers
abbrev pub is_less : {A : Type 0} → (A → List ℕ) → A → A → Bool
is_less numbers x y = comes_before (numbers x) (numbers y)

-- the first of a list that is least by its numbers, and none where the list is empty
abbrev pub first_least : {A : Type 0} → (A → List ℕ) → List A → Option A
first_least numbers [] = None
first_least numbers (x ∷ xs) = Some (best_of (is_less numbers) x xs)

-- the same, where something may have been found before the list
abbrev pub least_after : {A : Type 0} → (A → List ℕ) → Option A → List A → Option A
least_after numbers None xs = first_least numbers xs
least_after numbers (Some found) xs = Some (best_of (is_less numbers) found xs)
