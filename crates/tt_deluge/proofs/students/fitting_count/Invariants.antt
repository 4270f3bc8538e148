use Rattle.std.proofs.Common.{◌≡◌, ◌+◌, ◌-◌, ◌++◌, ◌≤◌, length}
use Rattle.std.specs.List.{filter, range_with_len}
use Rattle.tt_deluge.proofs.students.fitting_count.Given as goal
use Rattle.tt_deluge.specs.Pieces.{fits_beside, fitting}

abbrev pub invariant-loop-class : goal.invariant-loop-class
invariant-loop-class l = record {
  few : l.count ≤ l.class;
  counted : l.count + length (filter (fits_beside l.problem (l.rest ++ l.so_far)) (range_with_len l.class (l.fn.subpart.after - l.class)))
      ≡ length (fitting l.problem (l.rest ++ l.so_far) l.fn.subpart);
}
