use Rattle.std.proofs.Common.{ℕ, ◌∙◌, ◌<◌, cond, List, length, refl, sym, ap, arith, subst}
use Rattle.std.specs.Prelude.{slice_index}
use Rattle.std.specs.List.{AllByRecursion}
use Rattle.std.proofs.lemmas.List.{length-set}
use Rattle.tt_base.specs.Lists.{is_listed}
use Rattle.tt_improve.proofs.TouchedLemmas.{note_one}
use Rattle.tt_improve.proofs.touched.note_students.Goals as goal

pub loop-place-init : goal.loop-place-init
loop-place-init c = record {
  can = tt;
  finite = tt;
  whole = refl;
  below = subst (AllByRecursion (λ place. place < length c.args.table.now)) (sym c.into_iter-place-iterator.ensures.into_iter_gives) c.requires;
  stages = λ k. refl;
}

pub bounds-table-place : goal.bounds-table-place
bounds-table-place c =
    let all = subst (AllByRecursion (λ place. place < length c.args.table.now)) c.in-Some.ensures.steps c.loop-place.invariant.below in
    omega (arith, all.0, c.loop-place.invariant.whole)

pub loop-place-preserved : goal.loop-place-preserved
loop-place-preserved c =
    let all = subst (AllByRecursion (λ place. place < length c.args.table.now)) c.in-Some.ensures.steps c.loop-place.invariant.below in
    let within : c.in-Some.place < length c.loop-place.table = omega (arith, all.0, c.loop-place.invariant.whole) in
    record {
      can = tt;
      finite = tt;
      whole = length-set c.loop-place.table c.in-Some.place c.args.stage ∙ c.loop-place.invariant.whole;
      below = all.1;
      stages = λ k.
          note_one c.loop-place.table c.in-Some.place c.args.stage c.next.new.self k within
          ∙ ap (λ (left : List ℕ). cond (is_listed k left) c.args.stage (slice_index c.loop-place.table k)) (sym c.in-Some.ensures.steps)
          ∙ c.loop-place.invariant.stages k;
    }

pub returns-clause-stages : goal.returns-clause-stages
returns-clause-stages c = λ k.
    ap (λ (left : List ℕ). cond (is_listed k left) c.args.stage (slice_index c.loop-place.table k)) (sym c.in-None.ensures.steps.0)
    ∙ c.loop-place.invariant.stages k
    ∙ ap (λ (left : List ℕ). cond (is_listed k left) c.args.stage (slice_index c.args.table.now k)) c.into_iter-place-iterator.ensures.into_iter_gives
