use Rattle.std.proofs.Common.{◌≡◌, drop}
use Rattle.std.specs.List.{list_any}
use Rattle.tt_plan.specs.Domain.{domain_of}
use Rattle.tt_search.specs.Turns.{has_open_value, is_open}
use Rattle.tt_search.proofs.drawing.has_open_value.Given as goal

abbrev pub invariant-loop-k : goal.invariant-loop-k
invariant-loop-k l =
    list_any (is_open l.state.problem l.state.present.closures l.class) (drop l.k (domain_of l.state.problem l.class)) ≡ has_open_value l.state.problem l.state.present.closures l.class
