use Rattle.tt_make.proofs.Pieces.{whole_written, whole_words}
use Rattle.tt_make.proofs.courses.push_whole.Goals as goal

pub returns-clause-text : goal.returns-clause-text
returns-clause-text c = whole_written _ _ _ _ _ _ _ _ c.args.rooms c.args.k _ _ c.in_ok-push_field.ensures c.in_ok-push_text.ensures c.in_ok-push_subpart.ensures.text c.in_ok-push_subpart.ensures.random
    c.in_ok-push_text-2.ensures c.in_ok-push_subpart-2.ensures.text c.in_ok-push_field-2.ensures c.in_ok-push_text-3.ensures

pub returns-clause-random : goal.returns-clause-random
returns-clause-random c = whole_words c.args.rooms c.args.k _ _ _ c.in_ok-push_subpart.ensures.random c.in_ok-push_subpart-2.ensures.random
