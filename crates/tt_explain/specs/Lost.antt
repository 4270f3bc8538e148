-- Proof. What classes would lose.
use Rattle.std.specs.Prelude.{ℕ, List, option_map}
use Rattle.std.specs.List.{filter_map}
use Rattle.tt_bits.specs.declared.times.Value.{Value}
use Rattle.tt_state.specs.Snapshots.{Snapshot, value_in}

-- those of some classes that have a value, each with that value
unfoldable pub lost_among : Snapshot → List ℕ → List (ℕ × Value)
lost_among s others = filter_map (λ other. option_map (λ had. (other, had)) (value_in s other)) others
