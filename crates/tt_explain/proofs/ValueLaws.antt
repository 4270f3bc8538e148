-- What `values` says of a value is what `why` says of it.
use Rattle.std.proofs.Common.{◌≡◌, ◌∙◌, ℕ, suc, true, List, [], ◌∷◌, ◌++◌, Option, Some, None, length, refl, sym, ap, arith}
use Rattle.std.specs.Prelude.{All, IsSome, codes, is_some, option_and_then}
use Rattle.std.specs.Option.{option_map_or}
use Rattle.std.proofs.lemmas.List.Elements.{All-head, All-tail}
use Rattle.tt_bits.specs.declared.times.Spot.{Spot}
use Rattle.tt_bits.specs.declared.times.Value.{Value}
use Rattle.tt_bits.specs.Spots.{spot_at}
use Rattle.tt_problem.specs.declared.parts.Parts.{Parts}
use Rattle.tt_plan.specs.Domain.{spot_at_value, spots_of}
use Rattle.tt_clash.specs.Amounts.{rule_amounts}
use Rattle.tt_clash.specs.ConflictSet.{conflict_set}
use Rattle.tt_clash.proofs.SetLemmas.{conflict_set-others}
use Rattle.tt_score.specs.Forcing.{among}
use Rattle.tt_score.proofs.PlanLemmas.{spot_in}
use Rattle.tt_state.specs.declared.obstacle.Obstacle.{Obstacle}
use Rattle.tt_state.specs.Snapshots.{Snapshot, value_in}
use Rattle.tt_state.specs.Values.{conflict_set_of, obstacle_of, total_with}
use Rattle.tt_explain.specs.Values.{IsToldByWhy, value_costs, costs_text, price_text}
use Rattle.tt_explain.specs.Lost.{lost_among}
use Rattle.tt_explain.specs.Why.{lost_of, out_lines, trial_line, why_lines, obstacle_text}

-- where each class has a value, each loses one
lost-all : (s : Snapshot) (others : List ℕ) → All (λ other. is_some (value_in s other) ≡ true) others → length (lost_among s others) ≡ length others
unfolding lost_among
lost-all s [] all = refl
lost-all s (other ∷ others) all =
    let has = λ (d : ℕ). is_some (value_in s d) ≡ true in
    by (value_in s other) refl (All-head has other others all) (lost-all s others (All-tail has other others all))
  where
    by : (had : Option Value) → value_in s other ≡ had → is_some had ≡ true → length (lost_among s others) ≡ length others → length (lost_among s (other ∷ others)) ≡ length (other ∷ others)
    by None is placed rest = absurd cc
    by (Some had) is placed rest = rw is (ap suc rest)

-- a class with a spot has a value
placed_has_value : (p : Parts) (s : Snapshot) (class : ℕ) → is_some (spot_at (spots_of p s.plan) class) ≡ true → is_some (value_in s class) ≡ true
placed_has_value p s class placed = by (value_in s class) (sym (ap is_some (spot_in p s.plan class)) ∙ placed)
  where
    by : (o : Option Value) → is_some (option_and_then (spot_at_value p class) o) ≡ true → is_some o ≡ true
    by None none = none
    by (Some v) some = refl

-- each class of the conflict set has a value
all_placed : (p : Parts) (s : Snapshot) (class : ℕ) (v : Value) → All (λ other. is_some (value_in s other) ≡ true) (conflict_set_of p s class v)
unfolding conflict_set_of
all_placed p s class v = by (spot_at_value p class v)
  where
    by : (o : Option Spot) → All (λ other. is_some (value_in s other) ≡ true) (option_map_or (λ x. conflict_set (rule_amounts p) (among p s.plan class x)) o [])
    by None = λ k d within. absurd (omega (arith, within))
    by (Some x) =
        let others = conflict_set-others (rule_amounts p) (among p s.plan class x) in
        λ k d within. placed_has_value p s _ (others k d within).placed

module _ (p : Parts) (s : Snapshot) (class : ℕ) (v : Value) where
  -- what stands in the way is written alike
  same_obstacle : IsSome (obstacle_of p s class v) → why_lines p s class v ≡ codes "blocked " ++ price_text p s class v ++ codes "\n"
  unfolding why_lines price_text
  same_obstacle = by (obstacle_of p s class v)
    where
      by : (o : Option Obstacle) → IsSome o
          → option_map_or (λ found. codes "blocked " ++ obstacle_text p found ++ codes "\n") o (out_lines p s class v (lost_of p s class v) ++ trial_line (total_with p s class v))
          ≡ codes "blocked " ++ option_map_or (obstacle_text p) o (costs_text (value_costs p s class v)) ++ codes "\n"
      by None none = absurd cc
      by (Some found) some = refl

  -- the total too
  same_total : obstacle_of p s class v ≡ None → why_lines p s class v ≡ out_lines p s class v (lost_of p s class v) ++ trial_line (value_costs p s class v).total
  unfolding why_lines value_costs
  same_total none = rw none refl

  -- each class of the conflict set loses its value
  all_lost : (value_costs p s class v).out ≡ length (lost_of p s class v)
  unfolding value_costs lost_of lost_among
  all_lost = sym (lost-all s (conflict_set_of p s class v) (all_placed p s class v))

  pub told_by_why : IsToldByWhy p s class v
  told_by_why = record {
    obstacle = same_obstacle;
    out = all_lost;
    total = same_total;
  }
