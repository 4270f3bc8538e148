use Rattle.tt_choice.proofs.RoomLemmas.{room_is}
use Rattle.tt_choice.proofs.standing.Standing.conflicts.Goals as goal

-- src/standing.rt:102:42
pub conflict-requires-clause-from : goal.conflict-requires-clause-from
conflict-requires-clause-from c =
    rw c.travel-travel.ensures (room_is c.args.self.now.problem.now.travel c.in-Some-Some.spot.now.room (λ n e. c.args.self.now.rooms c.args.class c.in-Some-Some.spot.now n c.in-Some-Some.ensures.some e))
