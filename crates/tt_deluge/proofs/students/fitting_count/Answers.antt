use Rattle.std.proofs.Common.{◌++◌, length, sym, ◌∙◌, arith}
use Rattle.tt_deluge.proofs.PlaceLemmas.{count_takes, count_skips}
use Rattle.tt_deluge.proofs.students.fitting_count.Goals as goal
use Rattle.tt_deluge.proofs.students.fitting_count.Goals.{then-fits_beside, else-fits_beside}
use Rattle.tt_deluge.specs.Pieces.{fits_beside, fitting}

pub loop-class-preserved : goal.loop-class-preserved
loop-class-preserved c =
    let p = c.args.problem.now in
    let others = c.args.rest.now ++ c.args.so_far.now in
    let whole = length (fitting p others c.args.subpart) in
    elim c.if-fits_beside.branch [
      | then-fits_beside w ↦ record {
        few = omega arith;
        counted = rw w.count-is (count_takes (fits_beside p others) c.loop-class.class c.args.subpart.after c.loop-class.count whole c.loop-class-test.true (sym c.fits_beside.ensures ∙ w.if-fits_beside.true) c.loop-class.invariant.counted);
      }
      | else-fits_beside w ↦ record {
        few = omega arith;
        counted = rw w.count-is (count_skips (fits_beside p others) c.loop-class.class c.args.subpart.after c.loop-class.count whole c.loop-class-test.true (sym c.fits_beside.ensures ∙ w.if-fits_beside.false) c.loop-class.invariant.counted);
      }
    ]
