-- Proof. What the code of `place` keeps: how often each class was taken out.
use Rattle.std.specs.Prelude.{ℕ, ◌≡◌, ◌+◌, List, [], ◌∷◌, count_by, length, nat_eq, slice_index_or}
use Rattle.std.specs.List.{sum_by}
use Rattle.std.specs.Option.{option_map_or}
use Rattle.tt_bits.specs.declared.times.Value.{Value}
use Rattle.tt_problem.specs.declared.parts.Parts.{Parts}
use Rattle.tt_state.specs.Snapshots.{Snapshot}
use Rattle.tt_state.specs.Values.{conflict_set_of}
use Rattle.tt_search.specs.declared.turn.Turn.{Turn}
use Rattle.tt_search.specs.declared.weights.ClassWeights.{ClassWeights}
use Rattle.tt_search.specs.LeastNow.{then_by, total_numbers}
use Rattle.tt_search.specs.PlaceTurns.{PlaceMoment, after_forcing}

-- what a class weighs, by those that were taken out
abbrev pub class_weight : (outs : List ℕ) → (class : ℕ) → ℕ
class_weight outs class = 1 + count_by (nat_eq class) outs

-- the same, by how often each was taken out
abbrev pub weight_by : (outs : List ℕ) → (class : ℕ) → ℕ
weight_by outs class = 1 + slice_index_or outs class 0

-- the numbers of the price of a value, by how often each class was taken out; as in a search none strays
abbrev pub prices_by : Parts → Snapshot → (outs : List ℕ) → (class : ℕ) → Value → List ℕ
prices_by p s outs class v = sum_by (weight_by outs) (conflict_set_of p s class v) ∷ 0 ∷ []

-- the same, and behind them the total
abbrev pub burden_by : Parts → Snapshot → (outs : List ℕ) → (class : ℕ) → Value → List ℕ
burden_by p s outs class = then_by (prices_by p s outs class) (total_numbers p s class)

-- there is a count for each class: how often it was taken out
pub record CountsOuts (p : Parts) (outs : List ℕ) (w : ClassWeights) : Type 0 where
  pub whole : length w.outs.items ≡ length p.classes
  pub counts : (class : ℕ) → slice_index_or w.outs.items class 0 ≡ count_by (nat_eq class) outs

-- the classes that a turn took out, where these were found last
abbrev pub taken_by : Turn → (taken : List ℕ) → List ℕ
taken_by m taken = option_map_or (λ v. taken) m.value []

-- the moment after a turn
abbrev pub moment_after : Parts → Snapshot → (outs : List ℕ) → Turn → PlaceMoment
moment_after p s outs m = after_forcing p (record { snapshot = s; outs = outs }) m.class m.value
