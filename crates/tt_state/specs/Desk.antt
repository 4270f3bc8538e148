-- Theorem. A desk: a problem with its present snapshot and all earlier ones, kept whole.
use Rattle.std.specs.Prelude.{List, ◌∷◌}
use Rattle.tt_problem.specs.declared.parts.Parts.{Parts}
use Rattle.tt_state.specs.Snapshots.{Snapshot}

-- a problem with a present snapshot and the earlier ones, the newest first
pub record Desk : Type 0 where
  pub problem : Parts
  pub present : Snapshot
  pub earlier : List Snapshot

-- a desk with one more step, that leads to this snapshot
abbrev pub stepped : Desk → Snapshot → Desk
stepped d now = record d { present = now; earlier = d.present ∷ d.earlier }

-- a desk whose last step leads to this snapshot instead
abbrev pub moved_to : Desk → Snapshot → Desk
moved_to d now = record d { present = now }
