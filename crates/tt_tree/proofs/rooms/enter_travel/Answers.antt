use Rattle.std.proofs.Common.{codes, arith, ◌<◌}
use Rattle.tt_fields.specs.Answer.{part_of}
use Rattle.tt_tree.proofs.Places.{below_rooms}
use Rattle.tt_tree.proofs.rooms.enter_travel.Goals as goal

pub set-requires-clause-to : goal.set-requires-clause-to
set-requires-clause-to c =
    let travel = c.requires.among in
    let below : c.in_ok-to.to < c.args.entries.now.count = below_rooms c.args.entries.now.context.now.rooms _ _ (codes "room") (part_of c.args.item.now) (omega (arith, c.requires.room)) travel.known c.in_ok-to.ensures.below c.in_ok-to.ensures.place in
    omega (arith, travel.rooms, below)
