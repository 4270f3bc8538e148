use Rattle.std.proofs.Common.{◌≡◌, subst}
use Rattle.tt_state.specs.Values.{without_of}
use Rattle.tt_state.specs.History.{Contents}
use Rattle.tt_state.proofs.state.State.without.Goals as goal

pub returns-clause-without : goal.returns-clause-without
unfolding without_of
returns-clause-without c =
    let result = c.without.result in
    subst (λ (h : Contents). result ≡ without_of h.problem h.present c.args.class) c.self.view_is c.without.ensures.without
