use Rattle.std.proofs.Common.{◌++◌, ◌<◌, sym, ◌∙◌, arith}
use Rattle.std.specs.Prelude.{slice_get}
use Rattle.tt_deluge.proofs.PlaceLemmas.{at_later, at_skips}
use Rattle.tt_deluge.proofs.students.fitting_at.Goals as goal
use Rattle.tt_deluge.proofs.students.fitting_at.Goals.{then-fits_beside+else-before-eq0, else-fits_beside}
use Rattle.tt_deluge.specs.Pieces.{fits_beside, fitting}

pub loop-class-preserved : goal.loop-class-preserved
loop-class-preserved c =
    let p = c.args.problem.now in
    let others = c.args.rest.now ++ c.args.so_far.now in
    let found = slice_get (fitting p others c.args.subpart) c.args.place in
    elim c.if-fits_beside.branch [
      | then-fits_beside+else-before-eq0 w ↦
          let some : 0 < c.loop-class.before = omega (arith, w.if-before-eq0.false) in
          rw w.before-is (at_later (fits_beside p others) c.loop-class.class c.args.subpart.after c.loop-class.before found c.loop-class-test.true (sym c.fits_beside.ensures ∙ w.if-fits_beside.true) some c.loop-class.invariant)
      | else-fits_beside w ↦
          rw w.before-is (at_skips (fits_beside p others) c.loop-class.class c.args.subpart.after c.loop-class.before found c.loop-class-test.true (sym c.fits_beside.ensures ∙ w.if-fits_beside.false) c.loop-class.invariant)
    ]
