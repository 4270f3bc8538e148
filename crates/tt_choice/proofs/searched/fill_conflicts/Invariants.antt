use Rattle.std.proofs.Common.{◌≡◌, ℕ, ◌+◌, ◌*◌, ◌<◌, false, length, get_or}
use Rattle.tt_choice.specs.Searched.{either_conflicts}
use Rattle.tt_choice.specs.Standings.{situation_in}
use Rattle.tt_choice.proofs.searched.fill_conflicts.Given as goal

abbrev pub invariant-loop-place : goal.invariant-loop-place
invariant-loop-place l = record {
  long : length l.conflicts ≡ length l.fn.conflicts;
  each : (j k : ℕ) → j < l.place → k < l.count → get_or l.conflicts (j * l.size + k) false ≡ either_conflicts (situation_in l.standing) (l.first + j) (l.first + k);
}
