use Rattle.tt_make.proofs.Pieces.{subpart_written}
use Rattle.tt_make.proofs.courses.push_subpart.Goals as goal

pub returns-clause-text : goal.returns-clause-text
returns-clause-text g c = subpart_written c.args.id _ _ _ _ _ _ c.in_ok-push_text.ensures c.in_ok-push_list.ensures.text c.in_ok-push_field.ensures c.in_ok-push_text-2.ensures
