use Rattle.std.proofs.Common.{◌∙◌, ℕ, List, Option, ap, subst}
use Rattle.std.specs.Prelude.{◌≤◌, length, sum_by}
use Rattle.tt_bits.specs.declared.times.Spot.{Spot}
use Rattle.tt_plan.specs.Domain.{spots_of}
use Rattle.tt_roster.proofs.KeptLemmas.{few_seats}
use Rattle.tt_score.specs.Members.{AreSpotsOf}
use Rattle.tt_explain.proofs.PairLemmas.{few_pairs}
use Rattle.tt_explain.proofs.TotalLaws.{all_counted, rooms_of}
use Rattle.tt_explain.proofs.pairs.counts_add_up.Goals as goal

pub returns-clause-all : goal.returns-clause-all
returns-clause-all c = λ class.
    let p = c.args.state.now.problem in
    let s = c.args.state.now.present in
    let kept = c.score.ensures.fits.kept in
    let lists = c.soundness.ensures.present.lists in
    let valid = rw c.problem.ensures at c.validity.ensures in
    let fit : AreSpotsOf p (spots_of p s.plan) =
    let P : List (Option Spot) → Type 0 = AreSpotsOf p in subst P (kept.spots ∙ ap (spots_of p) c.score.ensures.plan) kept.of_classes in
    all_counted p s class lists.whole lists.ordered valid.travel (rooms_of p (spots_of p s.plan) valid fit)

pub returns-clause-few : goal.returns-clause-few
returns-clause-few c = λ class.
    let s = c.args.state.now in
    few_pairs s.problem s.present class
    (subst (λ (lists : List (List ℕ)). sum_by length lists ≤ 4000000) c.score.ensures.lists (few_seats s.problem _ (rw c.problem.ensures at c.validity.ensures) c.score.ensures.fits.roster))
