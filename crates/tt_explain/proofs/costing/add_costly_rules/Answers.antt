use Rattle.std.proofs.Common.{◌≡◌, ◌∙◌, ◌++◌, length, ap, arith}
use Rattle.std.specs.Prelude.{filter}
use Rattle.std.specs.List.{flat_map, range_with_len}
use Rattle.tt_plan.specs.Domain.{spots_of}
use Rattle.tt_explain.specs.Explain.{line_at}
use Rattle.tt_explain.specs.Costs.{costly_rules, is_costly_rule}
use Rattle.tt_explain.proofs.LineLemmas.{passing_more, piece_written}
use Rattle.tt_explain.proofs.costing.add_costly_rules.Goals as goal

pub loop-place-preserved : goal.loop-place-preserved
loop-place-preserved c =
    let p = c.args.state.now.problem in
    let spots = spots_of p c.args.state.now.present.plan in
    piece_written _ _ _ _ _ _ c.loop-place.invariant (passing_more (is_costly_rule p spots) (line_at p spots) c.loop-place.place) c.in_ok-add_costly_rule.ensures

pub returns : goal.returns
unfolding costly_rules
returns c =
    let p = c.args.state.now.problem in
    let spots = spots_of p c.args.state.now.present.plan in
    let all : c.loop-place.place ≡ length p.rules = omega (arith, c.rule_count-place-end.ensures.count, ap (λ q. length q.rules) c.problem.ensures) in
    c.loop-place.invariant ∙ ap (λ n. c.args.out.now ++ flat_map (line_at p spots) (filter (is_costly_rule p spots) (range_with_len 0 n))) all
