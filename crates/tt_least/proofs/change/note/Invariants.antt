use Rattle.std.proofs.Common.{◌<◌, IfSome}
use Rattle.tt_least.specs.Prices.{AreGroups}
use Rattle.tt_least.proofs.change.note.Given as goal

abbrev pub invariant-loop-place : goal.invariant-loop-place
invariant-loop-place l = record {
  groups : AreGroups l.table l.groups;
  found : IfSome l.found (λ first. first.group < l.table.size);
}
