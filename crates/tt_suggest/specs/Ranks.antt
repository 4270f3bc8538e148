-- Proof. The numbers that the code compares.
use Rattle.std.specs.Prelude.{ℕ, Bool, true, List, [], ◌∷◌, Option, Some, None}
use Rattle.tt_base.specs.Lists.{comes_before}
use Rattle.tt_suggest.specs.declared.suggestion.Rank.{Rank}
use Rattle.tt_suggest.specs.declared.suggestion.Suggestion.{Suggestion}
use Rattle.tt_suggest.specs.Suggestions.{suggestion_rank}

-- the numbers of a rank
abbrev pub rank_numbers : Rank → List ℕ
rank_numbers r = r.total ∷ r.moved ∷ []

-- a suggestion of this rank is better than what was found, if anything was
abbrev pub is_better : List ℕ → Option Suggestion → Bool
is_better rank None = true
is_better rank (Some best) = comes_before rank (suggestion_rank best)
