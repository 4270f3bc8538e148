use Rattle.std.proofs.Common.{◌≡◌, ◌<◌, None, List, Option, length, ap, ◌∙◌, arith}
use Rattle.std.proofs.lemmas.List.{get_or_default}
use Rattle.tt_bits.specs.declared.times.Spot.{Spot}
use Rattle.tt_bits.specs.Spots.{spot_at}
use Rattle.tt_plan.specs.Domain.{spots_of}
use Rattle.tt_score.proofs.PlanLemmas.{length-spots_from, spot_in}
use Rattle.tt_deluge.proofs.exchange.spot_now.Goals as goal

pub returns : goal.returns
returns c =
    let h = c.args.state.now in
    let class = c.args.class in
    let spots : c.spots.result.now ≡ spots_of h.problem h.present.plan = c.spots.ensures ∙ c.roster.ensures.spots h.problem c.score.ensures.fits ∙ ap (spots_of h.problem) c.score.ensures.plan in
    let within : class < length c.spots.result.now = omega (arith, ap length spots, length-spots_from h.problem 0 h.present.plan, ap length c.score.ensures.plan, c.score.ensures.fits.kept.planned.whole, c.requires) in
    c.index-spots-class.is ∙ get_or_default c.spots.result.now class c.index-spots-class.result None within ∙ ap (λ (l : List (Option Spot)). spot_at l class) spots ∙ spot_in h.problem h.present.plan class
