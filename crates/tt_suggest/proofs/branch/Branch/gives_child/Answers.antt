use Rattle.std.proofs.Common.{sym, ap, ◌∙◌}
use Rattle.std.specs.List.{find}
use Rattle.tt_state.specs.History.{Contents}
use Rattle.tt_state.specs.Snapshots.{is_locked_in}
use Rattle.tt_suggest.specs.Walks.{node_of}
use Rattle.tt_suggest.proofs.FollowLemmas.{gives_asked}
use Rattle.tt_suggest.proofs.branch.Branch.gives_child.Goals as goal

pub returns-clause-gives : goal.returns-clause-gives
returns-clause-gives c =
    let start = c.args.state.now in
    let now = c.may_follow.new.state in
    let same = ap (λ (h : Contents). h.present) c.may_follow.ensures.same in
    gives_asked start.problem c.args.self.now.spare (node_of start.present c.args.self.now) c.args.self.now.class c.args.self.now.others.items c.args.placement.now.value c.blocked.result now.taken c.first_locked.result c.is_none.result
    (rw c.requires.class at c.blocked.ensures) (sym c.is_some.ensures ∙ c.if-is_some.false) (sym c.stays_at_root.ensures ∙ c.if-stays_at_root.false) (sym (rw c.requires.class at c.may_follow.ensures.follows) ∙ c.if-not-may_follow.false) (rw c.requires.class at (c.may_follow.ensures.taken c.if-not-may_follow.false))
    (c.first_locked.ensures.first ∙ ap (λ s. find (is_locked_in s) now.taken) same) c.is_none.ensures
