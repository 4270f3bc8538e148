use Rattle.std.proofs.Common.{◌∙◌, Some, None, ap, refl, sym}
use Rattle.tt_state.specs.Kept.{snapshot_of}
use Rattle.tt_state.specs.Snapshots.{with_value}
use Rattle.tt_state.proofs.PastLemmas.{value_twice}
use Rattle.tt_state.proofs.StateLemmas.{same_snapshot}
use Rattle.tt_state.proofs.present.Present.set_value.Goals as goal

pub returns-in-Some-clause-now : goal.returns-in-Some-clause-now
returns-in-Some-clause-now c =
    let s = snapshot_of c.args.self.now in
    let class = c.args.class in
    same_snapshot _ (with_value (snapshot_of c.clear.new.self) class (Some c.in-Some.value)) c.place.ensures.plan c.place.ensures.lists refl c.place.ensures.closures refl
    ∙ ap (λ x. with_value x class (Some c.in-Some.value)) c.clear.ensures.now
    ∙ value_twice s class None (Some c.in-Some.value)
    ∙ ap (with_value s class) (sym c.in-Some.is)
