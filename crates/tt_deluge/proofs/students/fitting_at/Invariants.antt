use Rattle.std.proofs.Common.{◌≡◌, ◌-◌, ◌++◌}
use Rattle.std.specs.Prelude.{slice_get}
use Rattle.std.specs.List.{filter, range_with_len}
use Rattle.tt_deluge.proofs.students.fitting_at.Given as goal
use Rattle.tt_deluge.specs.Pieces.{fits_beside, fitting}

abbrev pub invariant-loop-class : goal.invariant-loop-class
invariant-loop-class l =
    slice_get (filter (fits_beside l.problem (l.rest ++ l.so_far)) (range_with_len l.class (l.fn.subpart.after - l.class))) l.before
    ≡ slice_get (fitting l.problem (l.rest ++ l.so_far) l.fn.subpart) l.fn.place
