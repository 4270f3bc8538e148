-- Theorem. A round on a class.
use Rattle.std.specs.Prelude.{ℕ, Bool, ◌&&◌, ◌==◌, nat_lt, [], ◌∷◌, Option, Some, None, length, if◌then◌else◌}
use Rattle.std.specs.Option.{is_none}
use Rattle.std.specs.List.{filter}
use Rattle.tt_base.specs.Lists.{first_least}
use Rattle.tt_bits.specs.declared.times.Value.{Value}
use Rattle.tt_problem.specs.declared.parts.Parts.{Parts}
use Rattle.tt_plan.specs.Domain.{domain_of}
use Rattle.tt_state.specs.Snapshots.{Snapshot, with_value, totals_in}
use Rattle.tt_state.specs.Values.{blocked_of, conflict_set_of, total_with}

-- the value of a class isn't blocked, and its conflict set is empty
abbrev pub is_free : Parts → Snapshot → (class : ℕ) → Value → Bool
is_free p s class v = is_none (blocked_of p s.closures class v) && (length (conflict_set_of p s class v) == 0)

-- the first of the free values of a class, in the order of its domain, with which the total is least
unfoldable pub least_value : Parts → Snapshot → (class : ℕ) → Option Value
least_value p s class =
    first_least (λ v. total_with p s class v ∷ []) (filter (is_free p s class) (domain_of p class))

-- the total of a snapshot
abbrev pub total_of : Parts → Snapshot → ℕ
total_of p s = (totals_in p s).total

-- the snapshot with a class at a value, where the total is then below the present one
abbrev pub at_lower : Parts → Snapshot → (class : ℕ) → Value → Option Snapshot
at_lower p s class v = if nat_lt (total_with p s class v) (total_of p s) then Some (with_value s class (Some v)) else None
