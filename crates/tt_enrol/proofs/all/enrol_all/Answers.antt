use Rattle.std.proofs.Common.{ap, ◌∙◌}
use Rattle.tt_state.specs.Desk.{Desk}
use Rattle.tt_enrol.specs.Enrolled.{AllEnrolled, all_enrolled}
use Rattle.tt_enrol.proofs.LockLemmas.{all_stay}
use Rattle.tt_enrol.proofs.all.enrol_all.Goals as goal

pub returns-in-Ok-clause-locked : goal.returns-in-Ok-clause-locked
returns-in-Ok-clause-locked g c =
    let h = c.args.state.now in
    all_stay h.problem h.present c.enrol_each.new.state.present
    (ap (λ (all : AllEnrolled). all.snapshot) c.in-Ok.ensures.all
    ∙ ap (λ (d : Desk). (all_enrolled d.problem d.present).snapshot) c.in_ok-begin.ensures.desk)
