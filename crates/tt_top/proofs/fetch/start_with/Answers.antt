use Rattle.tt_top.proofs.StartLemmas.{fetched_starts, fetched_sound, fetched_only}
use Rattle.tt_top.proofs.fetch.start_with.Goals as goal

pub returns-in-Ok-clause-starts : goal.returns-in-Ok-clause-starts
returns-in-Ok-clause-starts c = rw (c.in-Ok.is, c.fetched.ensures) (fetched_starts c.args.problem c.in-Ok.timetable c.start.result c.start.ensures)

pub returns-in-Ok-clause-fault : goal.returns-in-Ok-clause-fault
returns-in-Ok-clause-fault c = rw c.fetched.ensures (fetched_sound _ c.start.result)

pub returns-in-Ok-clause-only : goal.returns-in-Ok-clause-only
returns-in-Ok-clause-only c = rw c.fetched.ensures (fetched_only c.start.result)
