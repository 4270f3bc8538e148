-- The list of a student, walked over from place to place.
use Rattle.std.proofs.Common.{◌≡◌, ℕ, ◌+◌, ◌≤◌, List, [], ◌∷◌, Option, Some, None, length, drop, refl, sym, ◌∙◌, zero, suc, arith}
use Rattle.std.specs.Iterator.{YieldsFirst}
use Rattle.tt_roster.specs.Lists.{Ascends}

-- what is behind an item
pub drop-tail : {X : Type 0} (k j : ℕ) (xs : List X) (x : X) (rest : List X) → j ≡ k + 1 → drop k xs ≡ x ∷ rest → drop j xs ≡ rest
drop-tail k zero xs x rest next at = absurd (omega (arith, next))
drop-tail zero (suc j) [] x rest next at = absurd cc
drop-tail zero (suc zero) (y ∷ xs) x rest next at = let same : y ∷ xs ≡ x ∷ rest = at in cc
drop-tail zero (suc (suc j)) (y ∷ xs) x rest next at = absurd (omega (arith, next))
drop-tail (suc k) (suc j) [] x rest next at = absurd (let no : [] ≡ x ∷ rest = at in cc)
drop-tail (suc k) (suc j) (y ∷ xs) x rest next at = drop-tail k j xs x rest (omega (arith, next)) at

-- nothing is behind the end
drop-end : {X : Type 0} (k j : ℕ) (xs : List X) → j ≡ k + 1 → drop k xs ≡ [] → drop j xs ≡ []
drop-end k zero xs next at = absurd (omega (arith, next))
drop-end k (suc j) [] next at = refl
drop-end zero (suc j) (y ∷ xs) next at = absurd (let no : y ∷ xs ≡ [] = at in cc)
drop-end (suc k) (suc j) (y ∷ xs) next at = drop-end k j xs (omega (arith, next)) at

-- an item less
pub behind_next : (list left rest : List ℕ) (item : Option ℕ) (k j : ℕ) → j ≡ k + 1 → left ≡ drop k list → YieldsFirst {S = List ℕ} {A = ℕ} (λ items. items) left item rest → rest ≡ drop j list
behind_next list left rest None k j next is steps = steps.1 ∙ sym (drop-end k j list next (sym is ∙ steps.0))
behind_next list left rest (Some item) k j next is steps = sym (drop-tail k j list item rest next (sym is ∙ steps))

-- a list that ascends has no more items than there are numbers
pub length-ascending : (from after : ℕ) (list : List ℕ) → Ascends from after list → from ≤ after → from + length list ≤ after
length-ascending from after [] up low = omega arith
length-ascending from after (a ∷ list) up low = omega (arith, up.0, length-ascending (a + 1) after list up.2 (omega (arith, up.1)))
