-- What a search that found something, or nothing, says of the walk over all choices.
use Rattle.std.proofs.Common.{◌≡◌, ℕ, ◌<◌, ◌≤◌, true, false, List, [], ◌∷◌, Option, Some, length, arith, refl, ◌∙◌}
use Rattle.std.specs.Prelude.{IfSome}
use Rattle.tt_base.specs.Limits.{most_classes}
use Rattle.tt_problem.specs.declared.parts.Span.{Span}
use Rattle.tt_least.specs.Choices.{IsChoice}
use Rattle.tt_choice.specs.Limits.{most_added, most_already}
use Rattle.tt_choice.specs.declared.course.Found.{Found}
use Rattle.tt_choice.specs.Choices.{choices_of}
use Rattle.tt_choice.specs.Least.{Situation, is_allowed, pairs_added}
use Rattle.tt_choice.specs.Passed.{is_fewer, passed}
use Rattle.tt_choice.specs.Found.{chosen, has_fewer, IsFoundIn}
use Rattle.tt_choice.specs.Searched.{IsFirstFewest, NoneAdds}
use Rattle.tt_choice.proofs.FirstLemmas.{all-choices, passed-first, passed-none}
use Rattle.tt_choice.proofs.PairLemmas.{pairs_added-few}
use Rattle.tt_choice.proofs.VainLemmas.{fewer_is}

-- a choice has a class for each subpart
long-choice : (subparts : List Span) (choice : List ℕ) → IsChoice subparts choice → length choice ≡ length subparts
long-choice [] [] h = refl
long-choice [] (c ∷ choice) h = absurd h
long-choice (s ∷ subparts) [] h = absurd h
long-choice (s ∷ subparts) (c ∷ choice) h = omega (arith, long-choice subparts choice h.2)

module _ (s : Situation) (best : List ℕ) (found : Option Found) (subparts : List Span) (is : IfSome found (IsFoundIn s best)) where
  stays : ((choice : List ℕ) → IsChoice subparts choice → is_allowed s choice ≡ true → has_fewer found (pairs_added s choice) ≡ false) → passed s (chosen best found) (choices_of subparts) ≡ chosen best found
  stays h =
      passed-none s (chosen best found) (choices_of subparts)
      (all-choices (λ x. is_allowed s x ≡ true → is_fewer s x (chosen best found) ≡ false) subparts (λ choice one ok. fewer_is s best choice found is ∙ h choice one ok))

  -- where no number is fewer than what was found adds, it stays
  pub none-stays : ((n : ℕ) → has_fewer found n ≡ false) → passed s (chosen best found) (choices_of subparts) ≡ chosen best found
  none-stays none = stays (λ choice one ok. none (pairs_added s choice))

  -- where each allowed choice adds more than the most that is fewer, what was found stays
  pub more-stays : (most : ℕ) → length subparts ≤ most_classes → length s.already ≤ most_already → ((n : ℕ) → n ≤ most_added → most < n → has_fewer found n ≡ false) → NoneAdds s subparts most
      → passed s (chosen best found) (choices_of subparts) ≡ chosen best found
  more-stays most few few_already more none =
      stays (λ choice one ok. more (pairs_added s choice) (pairs_added-few s choice (omega (arith, long-choice subparts choice one)) few_already) (none.each choice one ok))

  -- the first of those that add the fewest pairs is found, where these are fewer
  pub first-kept : (most pairs : ℕ) (choice : List ℕ) → IsFirstFewest s subparts choice → pairs ≡ pairs_added s choice → pairs ≤ most → ((n : ℕ) → n ≤ most → has_fewer found n ≡ true)
      → passed s (chosen best found) (choices_of subparts) ≡ Some choice
  first-kept most pairs choice first counted few fewer =
      let less : has_fewer found (pairs_added s choice) ≡ true = fewer (pairs_added s choice) (omega (arith, counted, few)) in
      passed-first s (chosen best found) subparts choice first (fewer_is s best choice found is ∙ less)
