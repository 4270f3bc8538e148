use Rattle.std.proofs.Common.{Some, arith}
use Rattle.std.specs.Prelude.{slice_set}
use Rattle.tt_score.proofs.TotalLemmas.{few_cost_sum}
use Rattle.tt_score.proofs.score.Score.costs_at.Goals as goal

pub returns-clause-few : goal.returns-clause-few
returns-clause-few c = omega (arith, c.costs_with.ensures, few_cost_sum c.args.problem.now (slice_set c.args.self.now.occupancy.spots c.args.class (Some c.args.spot)) c.requires.fits.kept.valid)
