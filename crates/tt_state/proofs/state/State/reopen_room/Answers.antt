use Rattle.std.proofs.Common.{◌∙◌, ap, refl, subst}
use Rattle.tt_state.specs.declared.past.Beginning.TheVariants.{Step}
use Rattle.tt_state.specs.declared.present.Present.{Present}
use Rattle.tt_state.specs.Snapshots.{with_reopened}
use Rattle.tt_state.specs.History.{Contents, lifted_by}
use Rattle.tt_state.specs.Kept.{snapshot_of}
use Rattle.tt_state.specs.Past.{HasPastOf, LeadsTo, begun}
use Rattle.tt_state.proofs.StateLemmas.{leads_by, on_beginning, same_snapshot, state_after}
use Rattle.tt_state.proofs.ClosureLemmas.{reopened}
use Rattle.tt_state.proofs.state.State.reopen_room.Goals as goal

-- what is present after the closures were lifted
abbrev after : goal.After-lift_all → Present
after c = record { score = c.lift_all.new.score; statistics = c.self.inside.present.statistics; locks = c.self.inside.present.locks }

-- what the closures that were lifted lead to
leads : (c : goal.After-lift_all) → LeadsTo c.self.inside.problem (snapshot_of c.self.inside.present) (begun Step c.self.inside.past.list) (snapshot_of (after c)) c.lift_all.new.past.list
leads c =
    let i = c.self.inside in
    let s = snapshot_of i.present in
    let es = begun Step i.past.list in
    let e = c.lift_all.ensures in
    let noted = e.entries ∙ ap (lifted_by c.args.room 0 s.closures) (c.begin.ensures.entries ∙ ap (begun Step) c.reserve.ensures.list) in
    leads_by i.problem s (with_reopened s c.args.room) (snapshot_of (after c)) es (lifted_by c.args.room 0 s.closures es) c.lift_all.new.past.list
    (reopened i.problem s es c.args.room (on_beginning Step i.problem i.present i.past.list c.self.invariant.0 tt)) (same_snapshot (snapshot_of (after c)) (with_reopened s c.args.room) e.plan e.lists refl e.closures refl) noted

pub invariant_of-self-2 : goal.invariant_of-self-2
invariant_of-self-2 c = (state_after c.self.inside.problem _ _ _ c.lift_all.new.past.list c.lift_all.ensures.fits (leads c), c.self.invariant.1)

pub returns-clause-past : goal.returns-clause-past
returns-clause-past c =
    let now = snapshot_of (after c) in
    subst (λ (h : Contents). HasPastOf h.present (begun Step h.entries) now c.lift_all.new.past.list) c.self.view_is (leads c).past
