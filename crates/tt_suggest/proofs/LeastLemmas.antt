-- The best suggestion so far, and one more.
use Rattle.std.proofs.Common.{◌≡◌, ℕ, ◌≤◌, true, false, Option, Some, None, List, [], ◌∷◌, refl, sym, arith}
use Rattle.std.specs.Prelude.{◌↔◌}
use Rattle.tt_base.specs.Lists.{first_least, least_after}
use Rattle.tt_base.proofs.ListLemmas.{least_after_none}
use Rattle.tt_suggest.specs.declared.suggestion.Suggested.{Suggested}
use Rattle.tt_suggest.specs.declared.suggestion.Suggestion.{Suggestion}
use Rattle.tt_suggest.specs.Ranks.{is_better}
use Rattle.tt_suggest.specs.Suggestions.{suggestion_rank}
use Rattle.tt_suggest.specs.Walks.{AreFoundIn}

-- a suggestion that is better is taken
pub takes : (best : Option Suggestion) (x : Suggestion) → is_better (suggestion_rank x) best ≡ true → Some x ≡ least_after suggestion_rank best (x ∷ [])
takes None x better = refl
takes (Some best) x better = rw better refl

-- one that is not is passed over
pub stays : (best : Option Suggestion) (x : Suggestion) → is_better (suggestion_rank x) best ≡ false → best ≡ least_after suggestion_rank best (x ∷ [])
stays None x better = absurd (cc)
stays (Some best) x better = rw better refl

-- there is a least exactly where there is something
pub least_none : {A : Type 0} (numbers : A → List ℕ) (xs : List A) → (first_least numbers xs ≡ None) ↔ (xs ≡ [])
least_none numbers [] = (λ none. refl, λ none. refl)
least_none numbers (x ∷ xs) = (λ none. absurd (cc), λ none. absurd (cc))

-- nothing was tried
pub found_none : (now : Suggested) → now.tried ≤ 1000000 → AreFoundIn 0 [] now now
found_none now few = record { tried = omega arith; best = sym (least_after_none suggestion_rank now.best); few = few }
