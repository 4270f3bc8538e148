-- By going over the classes.
use Rattle.std.proofs.Common.{◌≡◌, ℕ, ◌+◌, ◌*◌, ◌<◌, Bool, List, [], ◌∷◌, true, false, slice_index_or, refl}
use Rattle.least_tests.proofs.FourLemmas.{below_four}
use Rattle.least_tests.proofs.least_tests.conflicts_of.Goals as goal

-- the rows of conflicts, one after another
abbrev rows : (a b c d : Bool) → List Bool
rows a b c d = true ∷ false ∷ a ∷ b ∷ false ∷ true ∷ c ∷ d ∷ a ∷ c ∷ true ∷ false ∷ b ∷ d ∷ false ∷ true ∷ []

-- two classes conflict both ways or not at all
abbrev AreBothWays : List Bool → ℕ → ℕ → Type 0
AreBothWays xs j k = slice_index_or xs (j * 4 + k) false ≡ slice_index_or xs (k * 4 + j) false

-- it is so of any two of the four
rows_both_ways : (a b c d : Bool) (j k : ℕ) → j < 4 → k < 4 → AreBothWays (rows a b c d) j k
rows_both_ways a b c d j k h i =
    let xs = rows a b c d in
    below_four (λ j. AreBothWays xs j k)
    (below_four (λ k. AreBothWays xs 0 k) refl refl refl refl k i)
    (below_four (λ k. AreBothWays xs 1 k) refl refl refl refl k i)
    (below_four (λ k. AreBothWays xs 2 k) refl refl refl refl k i)
    (below_four (λ k. AreBothWays xs 3 k) refl refl refl refl k i)
    j
    h

-- each of the four conflicts with itself
rows_itself : (a b c d : Bool) (k : ℕ) → k < 4 → slice_index_or (rows a b c d) (k * 4 + k) false ≡ true
rows_itself a b c d k h = below_four (λ k. slice_index_or (rows a b c d) (k * 4 + k) false ≡ true) refl refl refl refl k h

pub returns-clause-both_ways : goal.returns-clause-both_ways
returns-clause-both_ways c = rows_both_ways c.args.a c.args.b c.args.c c.args.d

pub returns-clause-itself : goal.returns-clause-itself
returns-clause-itself c = rows_itself c.args.a c.args.b c.args.c c.args.d
