-- The costs of the soft rules of which a class is no member.
use Rattle.std.proofs.Common.{◌≡◌, ℕ, ◌<◌, ◌≤◌, ◌^◌, List, Option, Some, None, refl, arith}
use Rattle.std.specs.Prelude.{slice_set}
use Rattle.std.proofs.lemmas.List.Sums.{sum_by-le-sum_by}
use Rattle.tt_bits.specs.declared.times.Spot.{Spot}
use Rattle.tt_problem.specs.declared.parts.Rule.{Rule}
use Rattle.tt_problem.specs.declared.parts.Parts.{Parts}
use Rattle.tt_problem.specs.Valid.{IsValid}
use Rattle.tt_problem.specs.RulePlaces.{place_in}
use Rattle.tt_score.specs.Amounts.{cost_sum}
use Rattle.tt_score.specs.Additions.{rule_cost}
use Rattle.tt_score.specs.Apart.{cost_apart, cost_sum_without}
use Rattle.tt_score.proofs.CostWalk.{IsSameOff}
use Rattle.tt_score.proofs.TotalLemmas.{few_cost_sum}
use Rattle.tt_score.proofs.WalkLemmas.{cost_off}

module _ (p : Parts) (spots : List (Option Spot)) (class : ℕ) where
  -- a rule that doesn't have the class counts as it costs, and one that has it counts nothing
  pub apart_off : IsSameOff class (rule_cost p spots) (cost_apart p spots class)
  apart_off = λ r none. rw none refl

  pub apart_at : (r : Rule) (q : ℕ) → place_in class r ≡ Some q → cost_apart p spots class r ≡ 0
  apart_at r q here = rw here refl

  -- a rule costs no less wherever the class is
  apart_least : (y : Option Spot) (r : Rule) → cost_apart p spots class r ≤ rule_cost p (slice_set spots class y) r
  apart_least y r = by (place_in class r) refl
    where
      by : (o : Option ℕ) → place_in class r ≡ o → cost_apart p spots class r ≤ rule_cost p (slice_set spots class y) r
      by None none = omega (arith, apart_off r none, cost_off p class spots y r none)
      by (Some q) here = omega (arith, apart_at r q here)

  -- the rules together cost no less wherever the class is
  pub cost_sum_without-least : (y : Option Spot) → cost_sum_without p spots class ≤ cost_sum p (slice_set spots class y)
  cost_sum_without-least y = sum_by-le-sum_by (cost_apart p spots class) (rule_cost p (slice_set spots class y)) p.rules (apart_least y)

  pub few_without : IsValid p → cost_sum_without p spots class < 2 ^ 100
  few_without valid = omega (arith, cost_sum_without-least None, few_cost_sum p (slice_set spots class None) valid)
