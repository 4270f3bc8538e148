use Rattle.std.proofs.Common.{◌≡◌, ◌≤◌, take, vec_len}
use Rattle.std.specs.Prelude.{filter}
use Rattle.tt_measure.specs.Cells.{stands_in}
use Rattle.tt_verify.proofs.blocks.cell_of.Given as goal

abbrev pub invariant-loop-spot : goal.invariant-loop-spot
invariant-loop-spot l = record {
  cell : l.cell.items ≡ filter (stands_in l.week l.day) (take l.spot-index l.spots);
  few : vec_len l.cell ≤ l.spot-index;
}
