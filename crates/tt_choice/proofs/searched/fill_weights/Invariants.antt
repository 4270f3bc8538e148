use Rattle.std.proofs.Common.{◌≡◌, ℕ, ◌+◌, ◌<◌, length, get_or}
use Rattle.tt_choice.specs.Searched.{already_pairs}
use Rattle.tt_choice.specs.Standings.{situation_in}
use Rattle.tt_choice.proofs.searched.fill_weights.Given as goal

abbrev pub invariant-loop-place : goal.invariant-loop-place
invariant-loop-place l = record {
  long : length l.weights ≡ length l.fn.weights;
  each : (k : ℕ) → k < l.place → get_or l.weights k 0 ≡ already_pairs (situation_in l.standing) (l.first + k);
}
