use Rattle.tt_least.specs.Prices.{IsBound}
use Rattle.tt_least.specs.Results.{IsNarrowed}
use Rattle.tt_least.proofs.narrow.drop_dear.Given as goal

abbrev pub invariant-loop-part : goal.invariant-loop-part
invariant-loop-part l =
    record {
      narrowed : IsNarrowed l.table l.limit l.fn.level l.level;
      bound : IsBound l.table l.groups l.level l.bound;
    }
