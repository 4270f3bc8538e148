use Rattle.tt_make.proofs.Pieces.{room_written, room_words}
use Rattle.tt_make.proofs.rooms.RoomsMade.push.Goals as goal

pub returns-clause-text : goal.returns-clause-text
returns-clause-text c = room_written _ _ _ _ _ c.args.id _ c.in_ok-push_field.ensures c.in_ok-push_travel.ensures.text c.in_ok-push_unavailable.ensures c.in_ok-push_text.ensures

pub returns-clause-random : goal.returns-clause-random
returns-clause-random c = room_words c.args.id _ _ c.in_ok-push_travel.ensures.random
