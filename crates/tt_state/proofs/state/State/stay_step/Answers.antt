use Rattle.std.proofs.Common.{◌∙◌, ap, subst, sym}
use Rattle.tt_state.specs.declared.past.Beginning.TheVariants.{Moment}
use Rattle.tt_state.specs.History.{Contents, HasStep}
use Rattle.tt_state.specs.Kept.{IsStateOf}
use Rattle.tt_state.specs.Past.{begun}
use Rattle.tt_state.proofs.StateLemmas.{on_beginning}
use Rattle.tt_state.proofs.StepLemmas.{step_is}
use Rattle.tt_state.proofs.state.State.stay_step.Goals as goal

pub invariant_of-self-2 : goal.invariant_of-self-2
invariant_of-self-2 c =
    let i = c.self.inside in
    let step = subst (λ (h : Contents). HasStep h.entries) (sym c.self.view_is) (step_is c.args.self.now c.requires.step) in
    let on = on_beginning Moment i.problem i.present i.past.list c.self.invariant.0 step in
    let noted = c.begin.ensures.entries ∙ ap (begun Moment) c.reserve.ensures.list in
    (subst (IsStateOf i.problem i.present) (sym noted) (record { kept = record { fits = c.self.invariant.0.kept.fits; back = on.back; counted = on.counted }; sound = on.sound }), c.self.invariant.1)
