-- Contract. How far the rounds have come.
use Rattle.std.specs.Prelude.{ℕ}
use Rattle.tt_state.specs.Snapshots.{Snapshot}
use Rattle.tt_improve.specs.Rounds.{Improvement}

-- a snapshot at which a deluge of so many rounds ends, and to which so many changes lead
abbrev pub ended_at : Snapshot → (rounds changed : ℕ) → Improvement
ended_at s rounds changed = record { snapshot = s; rounds = rounds; changed = changed }
