use Rattle.std.proofs.Common.{◌≡◌, ◌∙◌, ◌++◌, length, ap, arith}
use Rattle.std.specs.Prelude.{filter, nat_lt}
use Rattle.std.specs.List.{flat_map, range_with_len}
use Rattle.tt_explain.specs.Meets.{met_classes, meets_lines, meeting_line, met_students}
use Rattle.tt_explain.proofs.LineLemmas.{passing_more, piece_written}
use Rattle.tt_explain.proofs.meeting.meets.Goals as goal

pub loop-other-preserved : goal.loop-other-preserved
loop-other-preserved c =
    let p = c.args.state.now.problem in
    let s = c.args.state.now.present in
    piece_written _ _ _ _ _ _ c.loop-other.invariant (passing_more (λ other. nat_lt 0 (met_students p s c.args.class other)) (λ d. meeting_line p d (met_students p s c.args.class d)) c.loop-other.other) c.in_ok-add_meeting.ensures

pub returns-clause-lines : goal.returns-clause-lines
unfolding meets_lines met_classes
returns-clause-lines c =
    let p = c.args.state.now.problem in
    let s = c.args.state.now.present in
    let all : c.loop-other.other ≡ length p.classes = omega (arith, c.class_count-other-end.ensures.count, ap (λ q. length q.classes) c.problem.ensures) in
    c.loop-other.invariant ∙ ap (λ n. c.args.out.now ++ flat_map (λ d. meeting_line p d (met_students p s c.args.class d)) (filter (λ other. nat_lt 0 (met_students p s c.args.class other)) (range_with_len 0 n))) all
