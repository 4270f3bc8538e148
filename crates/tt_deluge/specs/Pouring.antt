-- Proof. How far a deluge has come.
use Rattle.std.specs.Prelude.{◌≡◌, ℕ, ◌<◌, ◌^◌, ◌⊎◌, List, [], ◌∷◌, Some, slice_get}
use Rattle.std.specs.List.{best_of}
use Rattle.rand_core.specs.Stream.{Stream}
use Rattle.tt_base.specs.Lists.{is_less}
use Rattle.tt_problem.specs.declared.parts.Parts.{Parts}
use Rattle.tt_state.specs.Snapshots.{Snapshot}
use Rattle.tt_improve.specs.Classes.{total_of}
use Rattle.tt_deluge.specs.declared.pouring.Moment.{Moment as Kept}
use Rattle.tt_deluge.specs.Pieces.{DelugeMoment}
use Rattle.tt_deluge.specs.Standing.{StandsAs}

-- a moment of this snapshot, after so many rounds, with so many changes and these words to come
abbrev pub moment_of : Snapshot → (made changed : ℕ) → Stream → DelugeMoment
moment_of s made changed random = (record { snapshot = s; rounds = made; changed = changed }, random)

-- what is kept of a moment is of the last snapshot of a trail
pub record IsMomentOf (p : Parts) (s : Snapshot) (trail : List Snapshot) (kept : Kept) : Type 0 where
  pub total : kept.total ≡ total_of p s
  pub small : kept.total < 2 ^ 127
  pub at : slice_get trail kept.place ≡ Some s

-- the number by which a moment is chosen
abbrev pub by_total : Parts → DelugeMoment → List ℕ
by_total p m = total_of p m.0.snapshot ∷ []

-- nothing has changed, or the total has fallen by some changes
abbrev pub HasFallen : Parts → (start now : Snapshot) → (changed : ℕ) → Type 0
HasFallen p start now changed = ((changed ≡ 0) × (now ≡ start)) ⊎ ((0 < changed) × (total_of p now < total_of p start))

-- the best moment so far is one of the trail, and with what is still ahead the way has this one as its best
pub record IsPouring (p : Parts) (start : Snapshot) (trail : List Snapshot) (ahead : List DelugeMoment) (best : Kept) (end : DelugeMoment) : Type 0 where
  pub now : Snapshot
  pub made : ℕ
  pub random : Stream
  pub moment : IsMomentOf p now trail best
  pub ends : best_of (is_less (by_total p)) (moment_of now made best.changed random) ahead ≡ end
  pub fallen : HasFallen p start now best.changed
  pub stands : StandsAs p start now
