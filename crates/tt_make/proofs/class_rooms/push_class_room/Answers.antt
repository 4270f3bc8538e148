use Rattle.tt_make.proofs.Pieces.{class_room_written}
use Rattle.tt_make.proofs.class_rooms.push_class_room.Goals as goal

pub returns : goal.returns
returns c = class_room_written c.args.id c.args.penalty _ _ _ _ c.in_ok-push_field.ensures c.in_ok-push_field-2.ensures c.in_ok-push_text.ensures
