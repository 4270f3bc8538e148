use Rattle.std.proofs.Common.{◌≡◌, ◌∙◌, ℕ, List, None, length, ap, arith}
use Rattle.std.specs.Prelude.{nat_le}
use Rattle.std.proofs.lemmas.List.{with_items_is}
use Rattle.tt_clash.specs.Blocked.{blocked_by}
use Rattle.tt_score.proofs.KeptLemmas.{length-spots}
use Rattle.tt_score.proofs.ConflictLemmas.{is-placing, held-by, free-alone, groups-same, set-agree}
use Rattle.tt_score.proofs.score.Score.conflict_set_within.Goals as goal

pub conflict_set_within-requires-clause-placing : goal.conflict_set_within-requires-clause-placing
conflict_set_within-requires-clause-placing c =
    let kept = c.requires.fits.kept in
    is-placing c.args.problem.now c.args.self.now.occupancy.spots c.args.placement.now.class c.args.placement.now.spot kept.valid.travel_rooms kept.of_classes (length-spots kept) c.requires.placement.value.within c.requires.placement.fits

pub conflict_set_within-requires-clause-groups : goal.conflict_set_within-requires-clause-groups
conflict_set_within-requires-clause-groups c =
    rw c.as_mut_slice.ensures.value (held-by c.args.problem.now c.args.self.now.occupancy.spots c.args.self.now.groups.items c.requires.fits.grouped)

pub conflict_set_within-requires-clause-free : goal.conflict_set_within-requires-clause-free
conflict_set_within-requires-clause-free c =
    let none : blocked_by c.args.problem.now c.args.self.now.closures c.args.placement.now.class c.args.placement.now.spot ≡ None = rw c.requires.placement.spot at c.requires.open in
    rw c.as_mut_slice.ensures.value (free-alone c.args.problem.now c.args.self.now.closures c.args.self.now.occupancy.spots c.args.self.now.groups.items c.args.placement.now.class c.args.placement.now.spot c.requires.fits.grouped none)

pub returns-clause-few : goal.returns-clause-few
returns-clause-few c =
    let s = c.args.self.now in
    let same = set-agree c.args.problem.now s.groups.items c.as_mut_slice.result.now s.plan.items s.occupancy.spots c.args.placement.now.class c.args.placement.now.value c.args.placement.now.spot c.requires.fits.grouped c.as_mut_slice.ensures.value c.requires.fits.kept.spots c.requires.placement.spot in
    c.conflict_set_within.ensures.few ∙ ap (λ (l : List ℕ). nat_le (length l) c.args.most) same

pub returns-clause-set : goal.returns-clause-set
returns-clause-set c = λ found.
    let s = c.args.self.now in
    c.conflict_set_within.ensures.set found
    ∙ set-agree c.args.problem.now s.groups.items c.as_mut_slice.result.now s.plan.items s.occupancy.spots c.args.placement.now.class c.args.placement.now.value c.args.placement.now.spot c.requires.fits.grouped c.as_mut_slice.ensures.value c.requires.fits.kept.spots c.requires.placement.spot

pub returns-clause-fits : goal.returns-clause-fits
returns-clause-fits c =
    let p = c.args.problem.now in
    let s = c.args.self.now in
    let fits = c.requires.fits in
    let held = c.conflict_set_within.ensures.groups in
    let same = rw c.as_mut_slice.ensures.value at c.conflict_set_within.ensures.same in
    let grouped = groups-same p s.occupancy.spots s.groups.items c.conflict_set_within.new.groups fits.grouped held same in
    rw (with_items_is s.groups c.conflict_set_within.new.groups (omega (arith, grouped.count, fits.grouped.count, s.groups.ok.0)))
    (record {
      kept = fits.kept;
      grouped = grouped;
      roster = fits.roster;
      placed = fits.placed;
      counted = fits.counted;
    })
