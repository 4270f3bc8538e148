use Rattle.tt_least.specs.Prices.{AreGroups}
use Rattle.tt_least.specs.Results.{IsNarrowed}
use Rattle.tt_least.proofs.narrow.narrow_often.Given as goal

abbrev pub invariant-loop : goal.invariant-loop
invariant-loop l =
    record {
      groups : AreGroups l.table l.groups;
      narrowed : IsNarrowed l.table l.limit l.fn.level l.level;
    }
