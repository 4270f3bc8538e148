-- Theorem. What `values` writes of a class.
use Rattle.std.specs.Prelude.{◌≡◌, ℕ, List, ◌++◌, None, IsSome, codes, length}
use Rattle.std.specs.List.{flat_map}
use Rattle.std.specs.Option.{option_map_or}
use Rattle.tt_bits.specs.declared.times.Value.{Value}
use Rattle.tt_problem.specs.declared.parts.Parts.{Parts}
use Rattle.tt_plan.specs.Domain.{domain_of}
use Rattle.tt_state.specs.Snapshots.{Snapshot}
use Rattle.tt_state.specs.Values.{conflict_set_of, obstacle_of, total_with}
use Rattle.tt_state.specs.Tolls.{tolls_of}
use Rattle.tt_text.specs.Fields.{field}
use Rattle.tt_explain.specs.declared.pricing.ValueCosts.{ValueCosts}
use Rattle.tt_explain.specs.Ids.{value_text}
use Rattle.tt_explain.specs.Why.{lost_of, obstacle_text, out_lines, trial_line, why_lines}

-- what a class at a value would cost: how many classes it pushes out, what these weigh, and the total with it there and all
-- else as it is
unfoldable pub value_costs : Parts → Snapshot → (class : ℕ) → Value → ValueCosts
value_costs p s class v = record { out = length (conflict_set_of p s class v); tolls = tolls_of p s class v; total = total_with p s class v }

-- `out N weight W trial E`
unfoldable pub costs_text : ValueCosts → List ℕ
costs_text c = field (codes "out ") c.out ++ field (codes " weight ") c.tolls ++ field (codes " trial ") c.total

-- what is told of a value: what stands in its way; where nothing does, what the class would cost there
unfoldable pub price_text : Parts → Snapshot → (class : ℕ) → Value → List ℕ
price_text p s class v =
    option_map_or (obstacle_text p) (obstacle_of p s class v) (costs_text (value_costs p s class v))

-- `value T R` and that
unfoldable pub priced_line : Parts → Snapshot → (class : ℕ) → Value → List ℕ
priced_line p s class v = codes "value " ++ value_text p class v ++ codes " " ++ price_text p s class v ++ codes "\n"

-- a line for each value of a class, in the order of its domain
unfoldable pub values_lines : Parts → Snapshot → (class : ℕ) → List ℕ
values_lines p s class = flat_map (priced_line p s class) (domain_of p class)

-- ---- `why`

-- What `values` tells of a value, `why` tells of it too: where something stands in the way, the same of that; where nothing
-- does, a line for each class that is pushed out, and the same total.
pub record IsToldByWhy (p : Parts) (s : Snapshot) (class : ℕ) (v : Value) : Type 0 where
  pub obstacle : IsSome (obstacle_of p s class v) → why_lines p s class v ≡ codes "blocked " ++ price_text p s class v ++ codes "\n"
  pub out : (value_costs p s class v).out ≡ length (lost_of p s class v)
  pub total : obstacle_of p s class v ≡ None → why_lines p s class v ≡ out_lines p s class v (lost_of p s class v) ++ trial_line (value_costs p s class v).total
