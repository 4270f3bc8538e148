use Rattle.std.proofs.Common.{length}
use Rattle.tt_read.proofs.at_once.+gather_ids.Given as goal

abbrev pub decreases-gather_ids : goal.decreases-gather_ids
decreases-gather_ids l = length l.keys.now
