-- Theorem. Pairs among the items of a list.
use Rattle.std.specs.Prelude.{ℕ, ◌+◌, Bool, List, [], ◌∷◌, count_by}

-- how many pairs of items are related, each item with each later one
abbrev pub pairs_among : {A : Type 0} → (A → A → Bool) → List A → ℕ
pairs_among related [] = 0
pairs_among related (x ∷ xs) = count_by (related x) xs + pairs_among related xs
