-- Contract. How far the rounds have come.
use Rattle.std.specs.Prelude.{ℕ}
use Rattle.tt_state.specs.Snapshots.{Snapshot}
use Rattle.tt_improve.specs.Rounds.{Improvement}

-- a snapshot after so many rounds, of which so many changed something
abbrev pub so_far : Snapshot → (rounds changed : ℕ) → Improvement
so_far s rounds changed = record { snapshot = s; rounds = rounds; changed = changed }
