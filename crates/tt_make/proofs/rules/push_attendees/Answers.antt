use Rattle.tt_make.proofs.Pieces.{attendees_written}
use Rattle.tt_make.proofs.rules.push_attendees.Goals as goal

pub returns : goal.returns
returns c = attendees_written c.args.k _ _ _ _ c.in_ok-push_field.ensures c.in_ok-push_field-2.ensures c.in_ok-push_text.ensures
