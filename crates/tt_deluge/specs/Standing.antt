-- Proof. What a round stands on, and what it leaves.
use Rattle.std.specs.Prelude.{◌≡◌, ℕ, ◌≤◌, Bool, false, cond, List, Option, Some, None, length, take}
use Rattle.tt_problem.specs.declared.parts.Parts.{Parts}
use Rattle.tt_state.specs.History.{Contents, trail}
use Rattle.tt_state.specs.Snapshots.{Snapshot, StaysLocked, totals_in}
use Rattle.tt_deluge.specs.Pieces.{made_within, targets_at}

-- the second snapshot is no harder than the first, has no class more unplaced, and the same statistics, closures, locks and targets;
-- and each locked class is where it was
pub record StandsAs (p : Parts) (s t : Snapshot) : Type 0 where
  pub hard : (totals_in p t).hard ≤ (totals_in p s).hard
  pub unplaced : (totals_in p t).unplaced ≤ (totals_in p s).unplaced
  pub statistics : t.statistics ≡ s.statistics
  pub closures : t.closures ≡ s.closures
  pub locks : t.locks ≡ s.locks
  pub targets : targets_at p t ≡ targets_at p s
  pub locked : (class : ℕ) → StaysLocked s t class

-- the second list begins with the first one
abbrev pub BeginsWith : List Snapshot → List Snapshot → Type 0
BeginsWith front whole = take (length front) whole ≡ front

-- what a round leaves that found this change: it is made where the total is then at most the level, and else nothing is
pub record IsRound (level : ℕ) (found : Option Snapshot) (old new : Contents) (made : Bool) : Type 0 where
  pub change : made_within old.problem level found ≡ cond made (Some new.present) None
  pub same : made ≡ false → new.present ≡ old.present
  pub front : BeginsWith (trail old) (trail new)
  pub stands : StandsAs old.problem old.present new.present

-- the same, and where the change isn't made, nothing is added to the trail
pub record IsClassRound (level : ℕ) (found : Option Snapshot) (old new : Contents) (made : Bool) : Type 0 where
  pub round : IsRound level found old new made
  pub still : made ≡ false → trail new ≡ trail old
