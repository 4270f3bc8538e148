use Rattle.std.proofs.Common.{◌∙◌, inl, inr, refl, arith}
use Rattle.std.proofs.lemmas.Bool.{cases_Bool}
use Rattle.tt_state.specs.Kept.{snapshot_of}
use Rattle.tt_state.specs.Values.{conflict_set_of}
use Rattle.tt_state.proofs.ForceLemmas.{found_within}
use Rattle.tt_state.proofs.StateLemmas.{asked_state}
use Rattle.tt_state.proofs.state.State.find_conflict_set_within.Goals as goal

pub invariant_of-self : goal.invariant_of-self
invariant_of-self c =
    let s = c.self.inside in
    let of = c.self.invariant in
    let e = c.conflict_set_within.ensures in
    (asked_state s.problem s.present _ s.past.list of.0 e.fits e.plan e.lists refl e.closures refl, e.classes ∙ of.1)

pub returns-clause-within : goal.returns-clause-within
unfolding conflict_set_of
returns-clause-within c =
    let s = c.self.inside in
    let e = c.conflict_set_within.ensures in
    elim (cases_Bool c.conflict_set_within.result) [
      | inl found ↦ found_within s.problem (snapshot_of s.present) c.args.placement.now.class c.args.placement.now.value c.conflict_set_within.new.listing.list c.self.invariant.0.sound.plan.whole (e.set found)
      | inr many ↦ let none = e.many many in rw none (λ k d lt. absurd (omega (arith, lt)))
    ]
