-- Theorem. A class that is forced to a value in a plan.
use Rattle.std.specs.Prelude.{ℕ, List, [], Option}
use Rattle.std.specs.Option.{option_map_or}
use Rattle.tt_bits.specs.declared.times.Spot.{Spot}
use Rattle.tt_bits.specs.declared.times.Value.{Value}
use Rattle.tt_problem.specs.declared.parts.Parts.{Parts}
use Rattle.tt_plan.specs.Domain.{spot_at_value, spots_of}
use Rattle.tt_clash.specs.Amounts.{rule_amounts}
use Rattle.tt_clash.specs.Placings.{Placing}
use Rattle.tt_clash.specs.ConflictSet.{conflict_set}

-- a class at a spot among the classes of a plan
abbrev pub among : Parts → List (Option Value) → (class : ℕ) → Spot → Placing
among p plan class x = record { problem = p; spots = spots_of p plan; class = class; spot = x }

-- the conflict set: the classes that a class pushes out where it is forced to a value
abbrev pub conflicts_at : Parts → List (Option Value) → (class : ℕ) → Value → List ℕ
conflicts_at p plan class v = option_map_or (λ x. conflict_set (rule_amounts p) (among p plan class x)) (spot_at_value p class v) []
