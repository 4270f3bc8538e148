use Rattle.std.proofs.Common.{◌≡◌, ◌++◌}
use Rattle.std.specs.List.{flat_map}
use Rattle.tt_verify.specs.Pairs.{pairs_with}
use Rattle.tt_explain.specs.Student.{pair_line}
use Rattle.tt_explain.specs.Pairs.{conflict_between}
use Rattle.tt_explain.proofs.attending.add_pairs_with.Given as goal

abbrev pub invariant-loop-other : goal.invariant-loop-other
invariant-loop-other l =
    l.out ++ flat_map (pair_line l.state.problem) (pairs_with (conflict_between l.state.problem l.state.present) l.class l.other-iterator)
    ≡ l.fn.out ++ flat_map (pair_line l.state.problem) (pairs_with (conflict_between l.state.problem l.state.present) l.class l.fn.later)
