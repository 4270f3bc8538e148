use Rattle.std.proofs.Common.{refl, arith}
use Rattle.tt_improve.proofs.TableLemmas.{length_in, targets_same, stages_set}
use Rattle.tt_improve.proofs.targets.Targets.note.Goals as goal

pub index_mut-requires : goal.index_mut-requires
index_mut-requires c = omega (arith, c.requires, length_in c.args.self.now)

pub returns-clause-targets : goal.returns-clause-targets
returns-clause-targets c =
    targets_same c.args.self.now _ c.args.place c.index_mut.result.now (record { target = c.index_mut.result.now.target; stage = c.args.stage }) refl c.index_mut.ensures.value refl

pub returns-clause-stages : goal.returns-clause-stages
returns-clause-stages c =
    stages_set c.args.self.now _ c.args.place (record { target = c.index_mut.result.now.target; stage = c.args.stage }) refl
