use Rattle.std.proofs.Common.{◌≡◌, ℕ, ◌+◌, ◌<◌, None, length, get_or}
use Rattle.tt_choice.specs.Searched.{parent_needed}
use Rattle.tt_choice.specs.Standings.{situation_in}
use Rattle.tt_choice.proofs.searched.fill_parents.Given as goal

abbrev pub invariant-loop-place : goal.invariant-loop-place
invariant-loop-place l = record {
  long : length l.parents ≡ length l.fn.parents;
  each : (k : ℕ) → k < l.place → get_or l.parents k None ≡ parent_needed (situation_in l.standing) (l.first + k);
}
