use Rattle.std.proofs.Common.{◌≡◌, ◌++◌}
use Rattle.std.specs.Prelude.{filter}
use Rattle.std.specs.List.{flat_map, range_with_len}
use Rattle.tt_plan.specs.Domain.{spots_of}
use Rattle.tt_explain.specs.Explain.{line_at}
use Rattle.tt_explain.specs.Costs.{is_costly_rule}
use Rattle.tt_explain.proofs.costing.add_costly_rules.Given as goal

abbrev pub invariant-loop-place : goal.invariant-loop-place
invariant-loop-place l =
    let p = l.state.problem in
    let spots = spots_of p l.state.present.plan in
    l.out ≡ l.fn.out ++ flat_map (line_at p spots) (filter (is_costly_rule p spots) (range_with_len 0 l.place))
