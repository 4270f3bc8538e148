use Rattle.std.proofs.Common.{◌<◌, All, length}
use Rattle.tt_roster.specs.Lists.{list_of}
use Rattle.tt_score.specs.Table.{AreBetween}
use Rattle.tt_score.proofs.table.seat_in.Given as goal

abbrev pub invariant-loop-other : goal.invariant-loop-other
invariant-loop-other l = record {
  can : goal.iterator-loop-other.can_next l.other-iterator;
  finite : goal.iterator-loop-other.is_finite l.other-iterator;
  within : All (λ other. other < length l.table) l.other-iterator;
  between : AreBetween l.class (list_of l.roster.seats l.student) l.fn.table l.other-iterator l.table;
}
