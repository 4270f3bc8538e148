use Rattle.tt_make.proofs.Pieces.{student_written, student_words}
use Rattle.tt_make.proofs.students.StudentsMade.push.Goals as goal

pub returns-clause-text : goal.returns-clause-text
returns-clause-text c = student_written _ _ _ _ _ c.args.self.now.courses c.args.id _ c.in_ok-push_text.ensures c.in_ok-push_list.ensures.text c.in_ok-push_field.ensures c.in_ok-push_text-2.ensures

pub returns-clause-random : goal.returns-clause-random
returns-clause-random c = student_words c.args.self.now.courses c.args.id _ _ c.in_ok-push_list.ensures.random
