use Rattle.std.proofs.Common.{rules, arith}
use Rattle.std.proofs.lemmas.Grind.{common_steps}
use Rattle.tt_tree.specs.Read.{IsClassAmong}
use Rattle.tt_tree.proofs.Pushed.{classes_push}
use Rattle.tt_tree.proofs.courses.ClassTableNextTableClasses.read_next.Goals as goal

pub returns-clause-valid : goal.returns-clause-valid
returns-clause-valid c =
    let class : IsClassAmong c.args.self.now.context.now (record { id = c.in_ok-id.id; limit = c.in_ok-limit.limit; parent = c.in_ok-parent.parent; times = c.from_vec.result; rooms = c.in_ok-rooms.rooms }) =
    first_of (search rules, grind (arith, common_steps)) in
    (c.requires.valid.0, classes_push _ _ _ _ c.requires.valid.1 c.in_ok-push.ensures.items c.in_ok-add_id.ensures.last c.in_ok-add_id.ensures.distinct class)
