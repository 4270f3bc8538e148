use Rattle.std.proofs.Common.{◌∙◌, List, Option, ap, subst}
use Rattle.tt_bits.specs.declared.times.Spot.{Spot}
use Rattle.tt_plan.specs.Domain.{spots_of}
use Rattle.tt_score.specs.Members.{AreSpotsOf}
use Rattle.tt_explain.proofs.TotalLaws.{add_up}
use Rattle.tt_explain.proofs.costing.costs_add_up.Goals as goal

pub returns : goal.returns
returns c =
    let p = c.args.state.now.problem in
    let s = c.args.state.now.present in
    let kept = c.score.ensures.fits.kept in
    let fit : AreSpotsOf p (spots_of p s.plan) =
    let P : List (Option Spot) → Type 0 = AreSpotsOf p in subst P (kept.spots ∙ ap (spots_of p) c.score.ensures.plan) kept.of_classes in
    add_up p s (rw c.problem.ensures at c.validity.ensures) fit c.soundness.ensures.present.plan.whole c.soundness.ensures.present.lists.ordered
