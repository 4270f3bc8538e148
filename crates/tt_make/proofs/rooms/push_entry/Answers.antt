use Rattle.tt_make.proofs.Pieces.{entry_written}
use Rattle.tt_make.proofs.rooms.push_entry.Goals as goal

pub returns : goal.returns
returns c = entry_written c.args.room c.args.value _ _ _ _ c.in_ok-push_field.ensures c.in_ok-push_field-2.ensures c.in_ok-push_text.ensures
