use Rattle.std.proofs.Common.{length, arith}
use Rattle.tt_choice.specs.Standings.{situation_in}
use Rattle.tt_choice.proofs.BufferLemmas.{room-best, room-before, within-longer}
use Rattle.tt_choice.proofs.course.best_by_both.Goals as goal

pub copy_found-requires-in-Stopped-clause-to : goal.copy_found-requires-in-Stopped-clause-to
copy_found-requires-in-Stopped-clause-to c =
    within-longer (situation_in c.args.standing.now) c.args.buffers.now.best.items c.as_mut_slice-in-Stopped.result.now c.args.found
    (omega (arith, c.best_choice.ensures.long)) c.requires.found

pub best_by_search-requires-clause-room : goal.best_by_search-requires-clause-room
best_by_search-requires-clause-room c =
    let before = room-before (length c.args.subparts.now) c.args.buffers.now c.copy_found.new.to c.requires.room in
    let now = c.best_choice.ensures.room (length c.args.subparts.now) before in
    room-best (length c.args.subparts.now) c.best_choice.new.buffers c.copy_found-in-Stopped.new.to now

pub returns-in-Ended-clause-room : goal.returns-in-Ended-clause-room
returns-in-Ended-clause-room c = λ count room. c.best_choice.ensures.room count (room-before count c.args.buffers.now c.copy_found.new.to room)

pub returns-in-Stopped-clause-room : goal.returns-in-Stopped-clause-room
returns-in-Stopped-clause-room c = λ count room.
    let before = room-before count c.args.buffers.now c.copy_found.new.to room in
    let now = c.best_choice.ensures.room count before in
    c.best_by_search.ensures.room count (room-best count c.best_choice.new.buffers c.copy_found-in-Stopped.new.to now)
