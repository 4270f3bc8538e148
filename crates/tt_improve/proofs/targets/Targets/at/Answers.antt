use Rattle.std.proofs.Common.{arith}
use Rattle.tt_improve.proofs.TableLemmas.{length_in, target_at, stage_at}
use Rattle.tt_improve.proofs.targets.Targets.at.Goals as goal

pub index-requires : goal.index-requires
index-requires c = omega (arith, c.requires, length_in c.args.self.now)

pub returns-clause-target : goal.returns-clause-target
returns-clause-target c = target_at c.args.self.now c.args.place c.index.result.now c.requires c.index.ensures

pub returns-clause-stage : goal.returns-clause-stage
returns-clause-stage c = stage_at c.args.self.now c.args.place c.index.result.now c.requires c.index.ensures
