use Rattle.std.proofs.Common.{◌≡◌, ◌∙◌, ◌∷◌, ap, sym, subst, true}
use Rattle.tt_score.specs.Fits.{Fits}
use Rattle.tt_state.specs.Snapshots.{with_lock}
use Rattle.tt_state.specs.History.{Contents}
use Rattle.tt_state.specs.Kept.{snapshot_of}
use Rattle.tt_state.specs.Past.{HasPastOf, LeadsTo, MayBegin, begun}
use Rattle.tt_state.specs.Turned.{may_turn, lock_entry}
use Rattle.tt_state.proofs.LockLemmas.{turned_one, turns}
use Rattle.tt_state.proofs.StateLemmas.{leads_by, on_beginning, state_after}
use Rattle.tt_state.proofs.state.State.turn.Goals as goal

pub turn-requires-clause-within : goal.turn-requires-clause-within
turn-requires-clause-within c =
    let may = subst (λ (h : Contents). may_turn c.args.lock h.present c.args.class ≡ true) (sym c.self.view_is) c.requires.may in
    let sound = c.self.invariant.0.sound in
    (turns (snapshot_of c.self.inside.present) c.args.class c.args.lock (sound.plan.whole ∙ sym sound.locks.whole) may).within

-- what the lock that turned leads to
leads : (c : goal.After-turn) → LeadsTo c.self.inside.problem (snapshot_of c.self.inside.present) (begun c.args.beginning c.self.inside.past.list) (snapshot_of c.turn.new.present) c.turn.new.past.list
leads c =
    let i = c.self.inside in
    let s = snapshot_of i.present in
    let es = begun c.args.beginning i.past.list in
    let note = lock_entry c.args.lock c.args.class in
    let begins = subst (λ (h : Contents). MayBegin c.args.beginning h.entries) (sym c.self.view_is) c.requires.begins in
    let may = subst (λ (h : Contents). may_turn c.args.lock h.present c.args.class ≡ true) (sym c.self.view_is) c.requires.may in
    let noted = c.turn.ensures.entries ∙ ap (λ l. note ∷ l) (c.begin.ensures.entries ∙ ap (begun c.args.beginning) c.reserve.ensures.list) in
    leads_by i.problem s (with_lock s c.args.class c.args.lock) (snapshot_of c.turn.new.present) es (note ∷ es) c.turn.new.past.list
    (turned_one i.problem s es c.args.class c.args.lock (on_beginning c.args.beginning i.problem i.present i.past.list c.self.invariant.0 begins) may) c.turn.ensures.now noted

pub invariant_of-self-2 : goal.invariant_of-self-2
invariant_of-self-2 c =
    let i = c.self.inside in
    let fits = subst (Fits i.problem) (sym c.turn.ensures.score) c.self.invariant.0.kept.fits in
    (state_after i.problem c.turn.new.present _ _ c.turn.new.past.list fits (leads c), c.self.invariant.1)

pub returns-clause-past : goal.returns-clause-past
returns-clause-past c =
    let after = snapshot_of c.turn.new.present in
    subst (λ (h : Contents). HasPastOf h.present (begun c.args.beginning h.entries) after c.turn.new.past.list) c.self.view_is (leads c).past
