use Rattle.tt_verify.proofs.PlanLemmas.{rooms_fit}
use Rattle.tt_verify.proofs.rules.add_rule_faults.Goals as goal

pub add_pairs-requires-clause-rooms : goal.add_pairs-requires-clause-rooms
add_pairs-requires-clause-rooms c =
    rw c.travel-travel.ensures (rooms_fit c.args.problem.now c.args.spots.now c.validity.ensures.travel_rooms c.requires.fit)
