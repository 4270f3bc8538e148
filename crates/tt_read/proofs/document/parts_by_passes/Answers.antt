use Rattle.tt_read.specs.Tables.{parts_of}
use Rattle.tt_read.proofs.document.parts_by_passes.Goals as goal

pub returns-clause-reads : goal.returns-clause-reads
unfolding parts_of
returns-clause-reads c = rw c.in_ok-shape.ensures.reads c.parts_after.ensures.reads
