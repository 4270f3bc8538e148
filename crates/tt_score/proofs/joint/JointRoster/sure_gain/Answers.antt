use Rattle.tt_score.proofs.NearLemmas.{sure_alone, sure_part}
use Rattle.tt_score.proofs.joint.JointRoster.sure_gain.Goals as goal

pub returns-clause-sure : goal.returns-clause-sure
returns-clause-sure c = λ p fits.
    let r = c.self.inside.roster in
    let near = c.keep_near_of in
    let kept = rw (← c.self.view_is) at fits in
    rw (← c.self.view_is) (sure_alone r.seats r.spots near.new.near c.args.class c.args.spot near.ensures.near near.ensures.class near.ensures.time (rw kept.classes kept.lists))

pub returns-clause-part : goal.returns-clause-part
returns-clause-part c = λ p fits.
    let r = c.self.inside.roster in
    let near = c.keep_near_of in
    let kept = rw (← c.self.view_is) at fits in
    rw (← c.self.view_is) (sure_part p.travel r.seats r.spots near.new.near c.args.class c.args.spot near.ensures.near near.ensures.class near.ensures.time (rw kept.classes kept.lists))
