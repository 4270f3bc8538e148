use Rattle.std.proofs.Common.{◌∙◌, refl}
use Rattle.tt_state.specs.Kept.{snapshot_of}
use Rattle.tt_state.specs.Values.{conflict_set_of}
use Rattle.tt_state.proofs.ForceLemmas.{found_within}
use Rattle.tt_state.proofs.StateLemmas.{asked_state}
use Rattle.tt_state.proofs.state.State.find_conflicts.Goals as goal

pub invariant_of-self : goal.invariant_of-self
invariant_of-self c =
    let s = c.self.inside in
    let of = c.self.invariant in
    let e = c.conflicts.ensures in
    (asked_state s.problem s.present _ s.past.list of.0 e.fits e.plan e.lists refl e.closures refl, e.classes ∙ of.1)

pub returns-clause-within : goal.returns-clause-within
unfolding conflict_set_of
returns-clause-within c =
    let s = c.self.inside in
    found_within s.problem (snapshot_of s.present) c.args.class c.args.value c.conflicts.new.listing.list c.self.invariant.0.sound.plan.whole c.conflicts.ensures.set
