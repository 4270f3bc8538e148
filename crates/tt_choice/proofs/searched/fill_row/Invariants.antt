use Rattle.std.proofs.Common.{◌≡◌, ℕ, ◌+◌, ◌<◌, false, length, get_or}
use Rattle.tt_choice.specs.Searched.{either_conflicts}
use Rattle.tt_choice.specs.Standings.{situation_in}
use Rattle.tt_choice.proofs.searched.fill_row.Given as goal

abbrev pub invariant-loop-place : goal.invariant-loop-place
invariant-loop-place l = record {
  long : length l.row ≡ length l.fn.row;
  each : (k : ℕ) → k < l.place → get_or l.row k false ≡ either_conflicts (situation_in l.standing) l.class (l.first + k);
}
