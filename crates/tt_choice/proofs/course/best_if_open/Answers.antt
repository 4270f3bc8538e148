use Rattle.std.proofs.Common.{sym, ◌∙◌}
use Rattle.tt_choice.specs.Standings.{situation_in}
use Rattle.tt_choice.specs.Found.{chosen}
use Rattle.tt_choice.proofs.VainLemmas.{passed-closed}
use Rattle.tt_choice.proofs.BufferLemmas.{room-ahead}
use Rattle.tt_choice.proofs.TurnLemmas.{apart-le}
use Rattle.tt_choice.proofs.course.best_if_open.Goals as goal

pub returns-then-not-can_all_be_filled-clause-best : goal.returns-then-not-can_all_be_filled-clause-best
returns-then-not-can_all_be_filled-clause-best c =
    sym (passed-closed (situation_in c.args.standing.now) (chosen c.args.buffers.now.best.items c.args.found) c.args.subparts.now (sym c.can_all_be_filled.ensures ∙ c.if-not-can_all_be_filled.true))

pub can_search-requires : goal.can_search-requires
can_search-requires c =
    apart-le c.args.subparts.now c.classes_of-classes.result.first c.classes_of-classes.result.after c.classes_of-classes.ensures.apart

pub returns-then-lacks_none-clause-room : goal.returns-then-lacks_none-clause-room
returns-then-lacks_none-clause-room c = λ count room. c.best_by_both.ensures.room count (room-ahead count c.args.buffers.now c.look_ahead.new.ahead room)

pub returns-in-Ended-clause-room : goal.returns-in-Ended-clause-room
returns-in-Ended-clause-room c = λ count room. c.best_choice.ensures.room count (room-ahead count c.args.buffers.now c.look_ahead.new.ahead room)
