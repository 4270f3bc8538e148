use Rattle.std.proofs.Common.{◌≡◌, ◌∙◌, ◌++◌, length, ap, arith}
use Rattle.std.specs.Prelude.{filter}
use Rattle.std.specs.List.{flat_map, range_with_len}
use Rattle.tt_explain.specs.Costs.{class_cost_line, class_costs, costly_classes, is_costly_class}
use Rattle.tt_explain.proofs.LineLemmas.{passing_more, piece_written}
use Rattle.tt_explain.proofs.costing.add_costly_classes.Goals as goal

pub loop-class-preserved : goal.loop-class-preserved
loop-class-preserved c =
    let p = c.args.state.now.problem in
    let s = c.args.state.now.present in
    piece_written _ _ _ _ _ _ c.loop-class.invariant (passing_more (is_costly_class p s) (λ class. class_cost_line p class (class_costs p s class)) c.loop-class.class) c.in_ok-add_costly_class.ensures

pub returns : goal.returns
unfolding costly_classes
returns c =
    let p = c.args.state.now.problem in
    let s = c.args.state.now.present in
    let all : c.loop-class.class ≡ length p.classes = omega (arith, c.class_count-class-end.ensures.count, ap (λ q. length q.classes) c.problem.ensures) in
    c.loop-class.invariant ∙ ap (λ n. c.args.out.now ++ flat_map (λ class. class_cost_line p class (class_costs p s class)) (filter (is_costly_class p s) (range_with_len 0 n))) all
