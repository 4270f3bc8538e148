use Rattle.std.proofs.Common.{sym, ◌∙◌, inl, inr}
use Rattle.tt_state.proofs.ObstacleLemmas.{blocked_not_clear}
use Rattle.tt_search.proofs.ChoiceLemmas.{available_after}
use Rattle.tt_search.proofs.offer.may_be_offered.Goals as goal
use Rattle.tt_search.proofs.offer.may_be_offered.Goals.{then-not-is_open-via-then-not-is_open, then-not-is_open-via-else-not-is_open+then-not-find_lighter}

pub returns-then-not-is_open-clause-passed : goal.returns-then-not-is_open-clause-passed
returns-then-not-is_open-clause-passed c = λ no.
    let start = c.args.state.now in
    elim c.then-not-is_open.branch [
      | then-not-is_open-via-then-not-is_open w ↦ inl (blocked_not_clear start.problem start.present c.args.placement.now.class c.args.placement.now.value (sym c.is_open.ensures.value ∙ w.if-not-is_open.true))
      | then-not-is_open-via-else-not-is_open+then-not-find_lighter w ↦ inr (w.find_lighter.ensures.heavier w.if-not-find_lighter.true)
    ]

pub returns-clause-available : goal.returns-clause-available
returns-clause-available c = λ yes.
    available_after c.args.state.now c.find_lighter.new.state c.args.placement.now.class c.args.placement.now.value c.first_locked.result c.is_none.result (c.is_open.ensures.free c.if-not-is_open.false) (c.find_lighter.ensures.found c.if-not-find_lighter.false) c.first_locked.ensures.first c.is_none.ensures ∙ yes

pub returns-clause-passed : goal.returns-clause-passed
returns-clause-passed c = λ no.
    inl (available_after c.args.state.now c.find_lighter.new.state c.args.placement.now.class c.args.placement.now.value c.first_locked.result c.is_none.result (c.is_open.ensures.free c.if-not-is_open.false) (c.find_lighter.ensures.found c.if-not-find_lighter.false) c.first_locked.ensures.first c.is_none.ensures ∙ no)
