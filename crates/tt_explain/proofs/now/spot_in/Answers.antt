use Rattle.std.proofs.Common.{◌∙◌, ap}
use Rattle.tt_bits.specs.Spots.{spot_at}
use Rattle.tt_plan.specs.Domain.{spots_of}
use Rattle.tt_explain.proofs.now.spot_in.Goals as goal

pub returns-clause-spot : goal.returns-clause-spot
returns-clause-spot c = c.spot.ensures ∙ ap (λ l. spot_at l c.args.class) (c.score.ensures.fits.kept.spots ∙ ap (spots_of c.args.state.now.problem) c.score.ensures.plan)

pub returns-clause-fits : goal.returns-clause-fits
returns-clause-fits c = rw c.spot.ensures (c.score.ensures.fits.kept.of_classes c.args.class)
