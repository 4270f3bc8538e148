use Rattle.std.proofs.Common.{drop}
use Rattle.tt_search.specs.Drawing.{AreCandidates}
use Rattle.tt_search.proofs.drawing.Candidates.follow.Given as goal

abbrev pub invariant-loop-taken : goal.invariant-loop-taken
invariant-loop-taken l = AreCandidates l.state.problem l.state.present l.self (drop l.taken-index l.taken-items)
