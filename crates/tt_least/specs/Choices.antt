-- Contract. Choices of one class of each subpart.
use Rattle.std.specs.Prelude.{ℕ, ◌<◌, ◌≤◌, List, [], ◌∷◌}
use Rattle.tt_problem.specs.declared.parts.Span.{Span}

-- the choice has one class of each subpart, in the order of the subparts
abbrev pub IsChoice : List Span → List ℕ → Type 0
IsChoice [] [] = Unit {0}
IsChoice [] (c ∷ choice) = ⊥
IsChoice (s ∷ subparts) [] = ⊥
IsChoice (s ∷ subparts) (c ∷ choice) = (s.first ≤ c) × (c < s.after) × IsChoice subparts choice

-- the classes of the subparts are from `first` on, each subpart's before those of the next, and below `after`
abbrev pub AreApart : ℕ → List Span → ℕ → Type 0
AreApart first [] after = first ≤ after
AreApart first (s ∷ subparts) after = (first ≤ s.first) × (s.first ≤ s.after) × AreApart s.after subparts after
