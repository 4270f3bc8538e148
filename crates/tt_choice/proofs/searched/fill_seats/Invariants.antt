use Rattle.std.proofs.Common.{◌≡◌, ℕ, ◌+◌, ◌<◌, false, length, get_or}
use Rattle.tt_choice.specs.Standings.{situation_in}
use Rattle.tt_choice.proofs.searched.fill_seats.Given as goal

abbrev pub invariant-loop-place : goal.invariant-loop-place
invariant-loop-place l = record {
  long : length l.left ≡ length l.fn.left;
  each : (k : ℕ) → k < l.place → get_or l.left k false ≡ (situation_in l.standing).has_seat (l.first + k);
}
