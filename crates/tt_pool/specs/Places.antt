-- Theorem. Where in a list its elements pass a test.
use Rattle.std.specs.Prelude.{ℕ, ◌+◌, Bool, List, [], ◌∷◌, if◌then◌else◌}

-- the places of the elements that pass a test, where the first element stands at `from`
abbrev pub places_where : {A : Type 0} → (A → Bool) → ℕ → List A → List ℕ
places_where f from [] = []
places_where f from (x ∷ xs) = if f x then from ∷ places_where f (from + 1) xs else places_where f (from + 1) xs
