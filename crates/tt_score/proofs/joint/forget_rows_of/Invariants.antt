use Rattle.std.proofs.Common.{◌≡◌, ◌∷◌}
use Rattle.tt_roster.specs.Lists.{list_of}
use Rattle.tt_score.proofs.RowLemmas.{rows_without}
use Rattle.tt_score.proofs.joint.forget_rows_of.Given as goal

abbrev pub invariant-loop-other : goal.invariant-loop-other
invariant-loop-other l = record {
  can : goal.iterator-loop-other.can_next l.other-iterator;
  finite : goal.iterator-loop-other.is_finite l.other-iterator;
  rows : rows_without l.other-iterator l.rows ≡ rows_without (l.class ∷ list_of l.roster.seats l.student) l.fn.rows;
}
