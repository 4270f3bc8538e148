use Rattle.std.proofs.Common.{◌∙◌, ap, subst, sym}
use Rattle.tt_score.specs.Fits.{Fits}
use Rattle.tt_state.specs.declared.past.Beginning.TheVariants.{Step}
use Rattle.tt_state.specs.History.{Contents}
use Rattle.tt_state.specs.Kept.{snapshot_of}
use Rattle.tt_state.specs.Past.{HasPastOf, LeadsTo, StandsOn, begun}
use Rattle.tt_state.proofs.StateLemmas.{on_beginning, state_after}
use Rattle.tt_state.proofs.state.State.turn_all.Goals as goal

pub turn_all-requires-clause-stands : goal.turn_all-requires-clause-stands
turn_all-requires-clause-stands c =
    let i = c.self.inside in
    let begins = c.begin.ensures.entries ∙ ap (begun Step) c.reserve.ensures.list in
    subst (StandsOn i.problem (snapshot_of i.present)) (sym begins) (on_beginning Step i.problem i.present i.past.list c.self.invariant.0 tt)

-- what the locks that turned lead to
leads : (c : goal.After-turn_all) → LeadsTo c.self.inside.problem (snapshot_of c.self.inside.present) (begun Step c.self.inside.past.list) (snapshot_of c.turn_all.new.present) c.turn_all.new.past.list
leads c =
    let i = c.self.inside in
    let begins = c.begin.ensures.entries ∙ ap (begun Step) c.reserve.ensures.list in
    subst (λ es. LeadsTo i.problem (snapshot_of i.present) es (snapshot_of c.turn_all.new.present) c.turn_all.new.past.list) begins c.turn_all.ensures.leads

pub invariant_of-self-2 : goal.invariant_of-self-2
invariant_of-self-2 c =
    let i = c.self.inside in
    let fits = subst (Fits i.problem) (sym c.turn_all.ensures.score) c.self.invariant.0.kept.fits in
    (state_after i.problem c.turn_all.new.present _ _ c.turn_all.new.past.list fits (leads c), c.self.invariant.1)

pub returns-clause-past : goal.returns-clause-past
returns-clause-past c =
    let after = snapshot_of c.turn_all.new.present in
    subst (λ (h : Contents). HasPastOf h.present (begun Step h.entries) after c.turn_all.new.past.list) c.self.view_is (leads c).past
