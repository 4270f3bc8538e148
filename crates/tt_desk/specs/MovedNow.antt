-- Proof. How many published classes are moved, as a session keeps it.
use Rattle.std.specs.Prelude.{◌≡◌, ℕ, List, [], ◌∷◌, Option, Some, None, count_by}
use Rattle.tt_bits.specs.declared.times.Value.{Value}
use Rattle.tt_problem.specs.declared.parts.Parts.{Parts}
use Rattle.tt_published.specs.Timetable.{Timetable}
use Rattle.tt_published.specs.Published.{is_moved, moved_in}
use Rattle.tt_state.specs.Snapshots.{Snapshot}

-- how many are moved now, and how many were before each of the newest steps, the newest first
pub record Counts : Type 0 where
  pub count : ℕ
  pub before : List ℕ

-- the numbers are those of the snapshots, one after another, as far as they go
abbrev pub AreMovedIn : Parts → Option Timetable → List Snapshot → List ℕ → Type 0
AreMovedIn p published snapshots [] = Unit {0}
AreMovedIn p published [] (n ∷ ns) = ⊥
AreMovedIn p published (s ∷ ss) (n ∷ ns) = (n ≡ moved_in p published s.plan) × AreMovedIn p published ss ns

-- how many of these classes are moved; none where there is no published timetable
abbrev pub moved_among : Parts → Option Timetable → List (Option Value) → List ℕ → ℕ
moved_among p None plan classes = 0
moved_among p (Some t) plan classes = count_by (is_moved p plan t) classes
