use Rattle.std.proofs.Common.{◌∙◌, refl}
use Rattle.tt_roster.proofs.KeptLemmas.{room_is}
use Rattle.tt_score.proofs.NearLemmas.{near_paid_by}
use Rattle.tt_score.proofs.joint.JointRoster.held_gain.Goals as goal

pub returns-then-is_sorted_by-clause-pairs : goal.returns-then-is_sorted_by-clause-pairs
returns-then-is_sorted_by-clause-pairs c =
    let kept = c.self.inside in
    let fits = rw (← c.self.view_is) at c.requires.fits in
    let room = room_is c.args.problem.now c.args.spot c.args.spot.room c.validity.ensures c.requires.room in
    let sum = rw c.travel-travel.ensures at c.near_conflicts.ensures in
    let most = rw c.travel-travel.ensures at c.most.ensures.most in
    let sorted = c.if-is_sorted_by.ensures in
    rw (← c.self.view_is) (sum ∙ near_paid_by c.args.problem.now.travel c.most.result kept.roster.seats kept.roster.spots kept.near c.args.class c.args.spot c.self.invariant.near (sorted.class refl) (sorted.time refl) (rw fits.classes fits.lists) most (sorted.most refl) room fits.rooms)
