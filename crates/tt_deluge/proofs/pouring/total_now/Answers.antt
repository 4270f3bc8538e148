use Rattle.std.proofs.Common.{ap, arith, ◌∙◌}
use Rattle.tt_score.specs.Fits.{closures_of, plan_of}
use Rattle.tt_deluge.proofs.TotalLemmas.{total-small}
use Rattle.tt_deluge.proofs.pouring.total_now.Goals as goal

pub returns-clause-small : goal.returns-clause-small
returns-clause-small c =
    let p = c.args.state.now.problem in
    let score = c.score.result.now in
    let fits = c.score.ensures.fits in
    let total = ap (λ t. t.total) (c.totals.ensures p fits) in
    omega (arith, total, total-small p (closures_of score) (plan_of score) score.roster fits.kept.valid fits.kept.planned.whole fits.roster (fits.placed ∙ fits.kept.spots))
