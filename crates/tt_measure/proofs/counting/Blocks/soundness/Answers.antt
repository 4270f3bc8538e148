use Rattle.tt_measure.proofs.CountLemmas.{heads_of, long_of}
use Rattle.tt_measure.proofs.counting.Blocks.soundness.Goals as goal

pub returns-clause-heads : goal.returns-clause-heads
returns-clause-heads c = heads_of c.args.self.now

pub returns-clause-long : goal.returns-clause-long
returns-clause-long c = long_of c.args.self.now
