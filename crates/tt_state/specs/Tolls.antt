-- Theorem. What a class at a value weighs: the classes that it pushes out, each with how often it did so before.
use Rattle.std.specs.Prelude.{ℕ, ◌+◌}
use Rattle.std.specs.Option.{option_map_or}
use Rattle.std.specs.List.{sum_by}
use Rattle.tt_bits.specs.declared.times.Value.{Value}
use Rattle.tt_problem.specs.declared.parts.Parts.{Parts}
use Rattle.tt_state.specs.Snapshots.{Snapshot, counter_of, value_in}
use Rattle.tt_state.specs.Values.{conflict_set_of}
use Rattle.tt_state.specs.Forced.{key_of}

-- 1, and how often the class at v has pushed out the other from the value that the other has
abbrev pub toll_of : Snapshot → (class : ℕ) → Value → (other : ℕ) → ℕ
toll_of s class v other =
    option_map_or (λ had. 1 + counter_of s (key_of class v other had)) (value_in s other) 1

-- the tolls of the whole conflict set
unfoldable pub tolls_of : Parts → Snapshot → (class : ℕ) → Value → ℕ
tolls_of p s class v = sum_by (toll_of s class v) (conflict_set_of p s class v)
