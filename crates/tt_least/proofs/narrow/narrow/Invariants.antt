use Rattle.std.proofs.Common.{All}
use Rattle.tt_least.specs.Prices.{AreGroups}
use Rattle.tt_least.specs.Results.{IsNarrowed}
use Rattle.tt_least.proofs.narrow.narrow.Given as goal

abbrev pub invariant-loop-place : goal.invariant-loop-place
invariant-loop-place l =
    record {
      groups : All (AreGroups l.table) l.groups;
      narrowed : IsNarrowed l.table l.limit l.fn.level l.level;
    }
