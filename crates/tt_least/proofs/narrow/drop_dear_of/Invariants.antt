use Rattle.tt_least.specs.Prices.{IsBound}
use Rattle.tt_least.specs.Results.{IsNarrowed}
use Rattle.tt_least.proofs.narrow.drop_dear_of.Given as goal

abbrev pub invariant-loop-class : goal.invariant-loop-class
invariant-loop-class l =
    record {
      narrowed : IsNarrowed l.table l.limit l.fn.level l.level;
      bound : IsBound l.table l.groups l.level l.bound;
    }
