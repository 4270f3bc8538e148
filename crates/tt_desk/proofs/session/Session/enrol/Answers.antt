use Rattle.std.proofs.Common.{ap, Ok}
use Rattle.tt_desk.proofs.MovedLemmas.{moved_enrolled}
use Rattle.tt_desk.proofs.session.Session.enrol.Goals as goal

pub step-requires-clause-same : goal.step-requires-clause-same
step-requires-clause-same c =
    let yes = ap Ok c.if-not-branch.false in
    let e = c.in_ok-enrol.ensures in
    moved_enrolled _ _ c.self.inside.published _ _ _ _ (ap (λ d. d.problem) (e.desk yes)) (e.enrolled yes) c.self.invariant.1.0
