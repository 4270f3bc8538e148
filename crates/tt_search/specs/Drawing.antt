-- Proof. Which classes are candidates, as the code keeps it.
use Rattle.std.specs.Prelude.{ℕ, ◌≡◌, ◌<◌, false, List, length, slice_index_or}
use Rattle.tt_bits.specs.declared.times.Closure.{Closure}
use Rattle.tt_problem.specs.declared.parts.Parts.{Parts}
use Rattle.tt_state.specs.Snapshots.{Snapshot}
use Rattle.tt_search.specs.Late.{AreRightBut}
use Rattle.tt_search.specs.Turns.{has_open_value, is_candidate}
use Rattle.tt_search.specs.declared.drawing.Candidates.{Candidates}

-- there is one flag for each class, and it is known which classes have an open value
pub record AreHopeful (p : Parts) (closures : List Closure) (c : Candidates) : Type 0 where
  pub whole : length c.free ≡ length p.classes
  pub known : length c.hopeful.items ≡ length p.classes
  pub hopeful : (class : ℕ) → class < length p.classes → slice_index_or c.hopeful.items class false ≡ has_open_value p closures class

-- the flags say which classes are candidates, but for some that are late
pub record AreCandidates (p : Parts) (s : Snapshot) (c : Candidates) (late : List ℕ) : Type 0 where
  pub kept : AreHopeful p s.closures c
  pub right : AreRightBut (length p.classes) c.free (is_candidate p s) late
