use Rattle.tt_make.proofs.Pieces.{four_written}
use Rattle.tt_make.proofs.rules.push_four.Goals as goal

pub returns : goal.returns
returns c = four_written _ _ _ _ _ _ _ _ _ _ c.in_ok-push_field.ensures c.in_ok-push_field-2.ensures c.in_ok-push_field-3.ensures c.in_ok-push_field-4.ensures c.in_ok-push_text.ensures
