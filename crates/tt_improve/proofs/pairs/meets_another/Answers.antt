use Rattle.std.proofs.Common.{ℕ, List, ap, ◌∙◌}
use Rattle.tt_plan.specs.Domain.{spots_of}
use Rattle.tt_state.specs.Snapshots.{list_in}
use Rattle.tt_improve.specs.Pairs.{meets_another}
use Rattle.tt_improve.proofs.ApartLemmas.{meets_none_at}
use Rattle.tt_improve.proofs.StudentLemmas.{list_below_at}
use Rattle.tt_improve.proofs.pairs.meets_another.Goals as goal

pub returns-in_default : goal.returns-in_default
returns-in_default c =
    let h = c.args.state.now in
    meets_none_at h.problem h.present (list_in h.present c.args.student) c.args.class c.spots-spots.result.now c.index-spots-class.result
    (c.spots-spots.ensures ∙ c.roster.ensures.spots h.problem c.score.ensures.fits ∙ ap (spots_of h.problem) c.score.ensures.plan) c.index-spots-class.is c.in_default.is

pub loop-other-init : goal.loop-other-init
loop-other-init c =
    let h = c.args.state.now in
    let is = c.into_iter-other-iterator.ensures.into_iter_gives ∙ c.classes_of-other-items.ensures in
    record {
      can = tt;
      finite = tt;
      below = list_below_at h.problem h.present c.args.student c.into_iter-other-iterator.result c.soundness.ensures.present c.requires.student is;
      ahead = ap (λ (xs : List ℕ). meets_another h.problem h.present xs c.args.class) is;
    }
