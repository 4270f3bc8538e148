use Rattle.std.proofs.Common.{◌∙◌, ◌<◌, length, ap, sym, subst}
use Rattle.tt_state.specs.declared.past.Beginning.TheVariants.{Step}
use Rattle.tt_state.specs.Snapshots.{with_unplaced}
use Rattle.tt_state.specs.History.{Contents, unplaced_by}
use Rattle.tt_state.specs.Kept.{snapshot_of}
use Rattle.tt_state.specs.Past.{HasPastOf, LeadsTo, begun}
use Rattle.tt_state.proofs.LockLemmas.{unplaced}
use Rattle.tt_state.proofs.StateLemmas.{leads_by, on_beginning, state_after}
use Rattle.tt_state.proofs.state.State.unplace.Goals as goal

-- what the class without a value leads to
leads : (c : goal.After-unplace) → LeadsTo c.self.inside.problem (snapshot_of c.self.inside.present) (begun Step c.self.inside.past.list) (snapshot_of c.unplace.new.present) c.unplace.new.past.list
leads c =
    let i = c.self.inside in
    let s = snapshot_of i.present in
    let es = begun Step i.past.list in
    let class = c.args.class in
    let within = subst (λ (h : Contents). class < length h.problem.classes) (sym c.self.view_is) c.requires in
    let noted = c.unplace.ensures.entries ∙ ap (unplaced_by s class) (c.begin.ensures.entries ∙ ap (begun Step) c.reserve.ensures.list) in
    leads_by i.problem s (with_unplaced s class) (snapshot_of c.unplace.new.present) es (unplaced_by s class es) c.unplace.new.past.list
    (unplaced i.problem s es class (on_beginning Step i.problem i.present i.past.list c.self.invariant.0 tt) within) c.unplace.ensures.now noted

pub invariant_of-self-2 : goal.invariant_of-self-2
invariant_of-self-2 c = (state_after c.self.inside.problem c.unplace.new.present _ _ c.unplace.new.past.list c.unplace.ensures.fits (leads c), c.self.invariant.1)

pub returns-clause-past : goal.returns-clause-past
returns-clause-past c =
    let after = snapshot_of c.unplace.new.present in
    subst (λ (h : Contents). HasPastOf h.present (begun Step h.entries) after c.unplace.new.past.list) c.self.view_is (leads c).past
