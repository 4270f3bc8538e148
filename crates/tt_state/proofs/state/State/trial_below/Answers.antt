use Rattle.std.proofs.Common.{◌≡◌, subst, sym}
use Rattle.tt_score.specs.Below.{below}
use Rattle.tt_state.specs.Values.{total_with, without_of}
use Rattle.tt_state.specs.History.{Contents}
use Rattle.tt_state.proofs.state.State.trial_below.Goals as goal

pub trial_below-requires-clause-without : goal.trial_below-requires-clause-without
unfolding without_of
trial_below-requires-clause-without c = subst (λ (h : Contents). c.args.without ≡ without_of h.problem h.present c.args.placement.now.class) (sym c.self.view_is) c.requires.without

pub returns-clause-total : goal.returns-clause-total
unfolding total_with
returns-clause-total c =
    let result = c.trial_below.result in
    subst (λ (h : Contents). result ≡ below c.args.bound (total_with h.problem h.present c.args.placement.now.class c.args.placement.now.value)) c.self.view_is c.trial_below.ensures.total
