use Rattle.std.proofs.Common.{◌≡◌}
use Rattle.std.specs.Prelude.{replicate}
use Rattle.tt_score.specs.Table.{new_row}
use Rattle.tt_score.proofs.table.new_table.Given as goal

abbrev pub invariant-loop : goal.invariant-loop
invariant-loop l = record {
  rows : l.table.items ≡ replicate l.counter (new_row l.classes);
}
