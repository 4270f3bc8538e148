-- Contract. A list of classes that grows at its end.
use Rattle.std.specs.Prelude.{ℕ, ◌-◌, Bool, false, ◌==◌, List, [], ◌∷◌, ◌++◌, length, slice_get, if◌then◌else◌}
use Rattle.std.specs.Option.{option_map_or}

-- the list ends with the class
abbrev pub ends_with : ℕ → List ℕ → Bool
ends_with class list = option_map_or (λ last. last == class) (slice_get list (length list - 1)) false

-- the list that ends with the class, which is added unless it stands there
abbrev pub ending_with : ℕ → List ℕ → List ℕ
ending_with class list = if ends_with class list then list else list ++ class ∷ []
