use Rattle.std.proofs.Common.{arith}
use Rattle.tt_score.proofs.CostLemmas.{few_without}
use Rattle.tt_score.proofs.score.Score.costs_without.Goals as goal

pub returns-clause-few : goal.returns-clause-few
returns-clause-few c = omega (arith, c.costs_without.ensures, few_without c.args.problem.now c.args.self.now.occupancy.spots c.args.class c.requires.fits.kept.valid)
