use Rattle.std.proofs.Common.{◌∙◌, ◌<◌, ◌∷◌, length, ap, refl, sym, subst}
use Rattle.tt_journal.specs.declared.Entry.TheVariants.{Closed}
use Rattle.tt_problem.specs.Valid.{IsTimeOf}
use Rattle.tt_state.specs.declared.past.Beginning.TheVariants.{Step}
use Rattle.tt_state.specs.declared.present.Present.{Present}
use Rattle.tt_state.specs.Snapshots.{with_closed}
use Rattle.tt_state.specs.History.{Contents}
use Rattle.tt_state.specs.Kept.{snapshot_of}
use Rattle.tt_state.specs.Past.{HasPastOf, LeadsTo, begun}
use Rattle.tt_state.proofs.StateLemmas.{leads_by, on_beginning, same_snapshot, state_after}
use Rattle.tt_state.proofs.ClosureLemmas.{closed_one}
use Rattle.tt_state.proofs.state.State.close_room.Goals.{After-note}
use Rattle.tt_state.proofs.state.State.close_room.Goals as goal

-- what is present after the room was closed
abbrev after : After-note → Present
after c = record { score = c.close.new.self; statistics = c.self.inside.present.statistics; locks = c.self.inside.present.locks }

-- what the closure leads to
leads : (c : After-note) → LeadsTo c.self.inside.problem (snapshot_of c.self.inside.present) (begun Step c.self.inside.past.list) (snapshot_of (after c)) c.note.new.self.list
leads c =
    let i = c.self.inside in
    let s = snapshot_of i.present in
    let es = begun Step i.past.list in
    let within = subst (λ (h : Contents). c.args.room < length h.problem.rooms) (sym c.self.view_is) c.requires.room in
    let time = subst (λ (h : Contents). IsTimeOf h.problem.nr_days h.problem.nr_weeks c.args.time) (sym c.self.view_is) c.requires.time in
    let few = subst (λ (h : Contents). length h.present.closures < 10000) (sym c.self.view_is) c.requires.few in
    let noted = c.note.ensures.list ∙ ap (λ l. Closed ∷ l) (c.begin.ensures.entries ∙ ap (begun Step) c.reserve.ensures.list) in
    leads_by i.problem s (with_closed s c.args.room c.args.time) (snapshot_of (after c)) es (Closed ∷ es) c.note.new.self.list
    (closed_one i.problem s es c.args.room c.args.time (on_beginning Step i.problem i.present i.past.list c.self.invariant.0 tt) within time few)
    (same_snapshot (snapshot_of (after c)) (with_closed s c.args.room c.args.time) c.close.ensures.plan c.close.ensures.lists refl c.in_ok-close.ensures.closures refl) noted

pub invariant_of-self-2 : goal.invariant_of-self-2
invariant_of-self-2 c = (state_after c.self.inside.problem _ _ _ c.note.new.self.list c.close.ensures.fits (leads c), c.self.invariant.1)

pub returns-clause-past : goal.returns-clause-past
returns-clause-past c =
    let now = snapshot_of (after c) in
    subst (λ (h : Contents). HasPastOf h.present (begun Step h.entries) now c.note.new.self.list) c.self.view_is (leads c).past
