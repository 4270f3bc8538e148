use Rattle.std.proofs.Common.{◌≡◌, ℕ, ◌<◌, false, length}
use Rattle.std.specs.Prelude.{slice_index_or}
use Rattle.tt_deluge.proofs.targets.choice_flags.Given as goal
use Rattle.tt_deluge.specs.Pieces.{has_choice}

abbrev pub invariant-loop-course : goal.invariant-loop-course
invariant-loop-course l = record {
  whole : length l.flags.items ≡ l.course;
  each : (k : ℕ) → k < l.course → slice_index_or l.flags.items k false ≡ has_choice l.problem k;
}
