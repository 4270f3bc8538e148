use Rattle.std.proofs.Common.{◌∙◌, ap, sym, refl}
use Rattle.tt_bits.specs.Spots.{spot_at}
use Rattle.tt_roster.specs.Conflicts.{student_conflicts}
use Rattle.tt_score.specs.Apart.{cost_sum_without}
use Rattle.tt_score.proofs.TriedLemmas.{spots_without}
use Rattle.tt_score.proofs.score.Score.without.Goals as goal

pub student_conflicts_without-student-requires-clause-has : goal.student_conflicts_without-student-requires-clause-has
student_conflicts_without-student-requires-clause-has c = ap (λ l. spot_at l c.args.class) c.requires.fits.placed ∙ sym c.spot-has.ensures

pub returns-clause-without : goal.returns-clause-without
returns-clause-without c =
    let s = c.args.self.now in
    let p = c.args.problem.now in
    let student = c.student_conflicts_without-student.ensures.conflicts ∙ ap (λ l. student_conflicts p.travel l s.roster.seats) (spots_without p s c.args.class c.requires.fits) in
    let costs = c.costs_without-distribution.ensures.costs ∙ ap (λ l. cost_sum_without p l c.args.class) c.requires.fits.kept.spots in
    rw (student, costs) refl
