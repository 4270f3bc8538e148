use Rattle.std.proofs.Common.{◌≡◌, ◌++◌}
use Rattle.std.specs.Prelude.{filter}
use Rattle.std.specs.List.{flat_map, range_with_len}
use Rattle.tt_explain.specs.Costs.{class_cost_line, class_costs, is_costly_class}
use Rattle.tt_explain.proofs.costing.add_costly_classes.Given as goal

abbrev pub invariant-loop-class : goal.invariant-loop-class
invariant-loop-class l =
    let p = l.state.problem in
    let s = l.state.present in
    l.out ≡ l.fn.out ++ flat_map (λ class. class_cost_line p class (class_costs p s class)) (filter (is_costly_class p s) (range_with_len 0 l.class))
