use Rattle.tt_make.proofs.Pieces.{extended, class_written, class_words}
use Rattle.tt_make.proofs.classes.push_class.Goals as goal

pub returns-clause-text : goal.returns-clause-text
returns-clause-text c = class_written _ _ _ _ _ _ _ _ _ _ c.args.rooms c.args.id c.args.parent _ _ c.new-times.ensures.items c.in_ok-push_list.ensures.text c.in_ok-push_list.ensures.random
    c.in_ok-push_field.ensures c.in_ok-push_text.ensures c.in_ok-push_parent.ensures c.in_ok-push_rooms.ensures.text c.in_ok-push_text-2.ensures
    (extended _ c.push_text-2.new.out.items _ _ c.in_ok-extend_from_slice.ensures.items c.deref.ensures.value) c.in_ok-push_text-3.ensures

pub returns-clause-random : goal.returns-clause-random
returns-clause-random c = class_words c.args.rooms c.args.id c.args.parent _ _ _ c.in_ok-push_list.ensures.random c.in_ok-push_rooms.ensures.random
