-- Contract. What a rule or a class adds to the totals.
use Rattle.std.specs.Prelude.{ℕ, List, Option, None, count_by, is_none, slice_index_or}
use Rattle.std.specs.Option.{option_map_or}
use Rattle.tt_bits.specs.declared.times.Spot.{Spot}
use Rattle.tt_bits.specs.declared.times.Value.{Value}
use Rattle.tt_problem.specs.declared.parts.Rule.{Rule}
use Rattle.tt_problem.specs.declared.parts.Parts.{Parts}
use Rattle.tt_score.specs.Amounts.{rule_amount, cost_of, hard_of}

-- the cost of a rule
abbrev pub rule_cost : Parts → List (Option Spot) → Rule → ℕ
rule_cost p spots r = cost_of p r (rule_amount p spots r)

-- the hard conflicts of a rule
abbrev pub rule_hard : Parts → List (Option Spot) → Rule → ℕ
rule_hard p spots r = hard_of r (rule_amount p spots r)

-- what the class at a place adds to a sum over the placed classes
abbrev pub paid_at : (ℕ → Value → ℕ) → List (Option Value) → ℕ → ℕ
paid_at f plan class = option_map_or (f class) (slice_index_or plan class None) 0

-- the classes without a value
abbrev pub unplaced_count : List (Option Value) → ℕ
unplaced_count plan = count_by is_none plan
