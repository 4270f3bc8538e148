-- Contract. Costs of rules by their places.
use Rattle.std.specs.Prelude.{ℕ, List, Option, slice_get}
use Rattle.std.specs.Option.{option_map_or}
use Rattle.tt_bits.specs.declared.times.Spot.{Spot}
use Rattle.tt_problem.specs.declared.parts.Parts.{Parts}
use Rattle.tt_score.specs.Additions.{rule_cost}

-- the cost of the rule at a place
unfoldable pub cost_at : Parts → List (Option Spot) → (place : ℕ) → ℕ
cost_at p spots place = option_map_or (rule_cost p spots) (slice_get p.rules place) 0
