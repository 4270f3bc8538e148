use Rattle.std.proofs.Common.{◌≡◌, ◌++◌}
use Rattle.std.specs.Prelude.{filter, nat_lt}
use Rattle.std.specs.List.{flat_map, range_with_len}
use Rattle.tt_explain.specs.Meets.{meeting_line, met_students}
use Rattle.tt_explain.proofs.meeting.meets.Given as goal

abbrev pub invariant-loop-other : goal.invariant-loop-other
invariant-loop-other l =
    let p = l.state.problem in
    let s = l.state.present in
    l.out ≡ l.fn.out ++ flat_map (λ d. meeting_line p d (met_students p s l.class d)) (filter (λ other. nat_lt 0 (met_students p s l.class other)) (range_with_len 0 l.other))
