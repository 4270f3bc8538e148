use Rattle.std.proofs.Common.{◌-◌, length}
use Rattle.std.specs.List.{range_with_len}
use Rattle.tt_search.specs.Drawing.{AreCandidates}
use Rattle.tt_search.proofs.drawing.Candidates.look_at_all.Given as goal

abbrev pub invariant-loop-class : goal.invariant-loop-class
invariant-loop-class l = AreCandidates l.state.problem l.state.present l.self (range_with_len l.class (length l.state.problem.classes - l.class))
