-- Proof. The penalties of a plan by what its classes pay.
use Rattle.std.specs.Prelude.{ℕ}
use Rattle.tt_score.specs.declared.classes.Paid.{Paid}
use Rattle.tt_score.specs.declared.totals.Penalties.{Penalties}

-- the penalties where the classes pay this for their times and rooms, the soft rules cost so much, and so many student conflicts are there
abbrev pub penalties_with : Paid → (distribution student : ℕ) → Penalties
penalties_with x distribution student = record { time = x.time; room = x.room; distribution = distribution; student = student }
