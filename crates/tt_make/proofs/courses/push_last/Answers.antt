use Rattle.tt_make.proofs.Pieces.{last_written, last_words}
use Rattle.tt_make.proofs.courses.push_last.Goals as goal

pub returns-clause-text : goal.returns-clause-text
returns-clause-text c = last_written _ _ _ _ _ _ c.args.rooms c.args.count c.args.k _ c.in_ok-push_field.ensures c.in_ok-push_text.ensures c.in_ok-push_subpart.ensures.text c.in_ok-push_field-2.ensures c.in_ok-push_text-2.ensures

pub returns-clause-random : goal.returns-clause-random
returns-clause-random c = last_words c.args.rooms c.args.count c.args.k _ _ c.in_ok-push_subpart.ensures.random
