use Rattle.std.proofs.Common.{◌≡◌, ◌++◌, [], drop}
use Rattle.std.specs.List.{flat_map}
use Rattle.tt_plan.specs.Domain.{domain_of}
use Rattle.tt_state.specs.History.{with_taken}
use Rattle.tt_explain.specs.Values.{values_lines, priced_line}
use Rattle.tt_explain.proofs.pricing.values.Given as goal

abbrev pub invariant-loop-k : goal.invariant-loop-k
invariant-loop-k l =
    let s = l.fn.state in
    record {
      same : with_taken l.state [] ≡ with_taken s [];
      lines : l.out ++ flat_map (priced_line s.problem s.present l.class) (drop l.k (domain_of s.problem l.class)) ≡ l.fn.out ++ values_lines s.problem s.present l.class;
    }
