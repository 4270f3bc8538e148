use Rattle.std.proofs.Common.{◌≡◌, take}
use Rattle.tt_choice.specs.Least.{pairs_added}
use Rattle.tt_choice.specs.Standings.{situation_in}
use Rattle.tt_choice.proofs.course.pairs_in.Given as goal

abbrev pub invariant-loop-place : goal.invariant-loop-place
invariant-loop-place l = l.pairs ≡ pairs_added (situation_in l.standing) (take l.place l.choice)
