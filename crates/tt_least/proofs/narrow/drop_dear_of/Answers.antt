use Rattle.std.proofs.Common.{◌≡◌, ◌+◌, ◌-◌, ◌<◌, None, arith, ap, refl, get_or, ◌∙◌}
use Rattle.tt_least.specs.declared.level.Level.{Level}
use Rattle.tt_least.proofs.BoundLemmas.{owed-small, span-there}
use Rattle.tt_least.proofs.NodeLemmas.{class-in}
use Rattle.tt_least.proofs.NarrowLemmas.{IsUseless, places-narrowed, narrowed-trans, narrowed-out, node-narrowed, bound-out, too-dear}
use Rattle.tt_least.proofs.narrow.drop_dear_of.Goals as goal
use Rattle.tt_least.proofs.narrow.drop_dear_of.Goals.{then-saturating_sub-spare, else-saturating_sub-spare}

pub overflow_add-spare : goal.overflow_add-spare
overflow_add-spare c = omega (arith, owed-small c.args.table.now c.args.groups.now c.requires.table c.requires.groups, c.requires.bound.owed, c.requires.few)

pub bounds-bound-place : goal.bounds-bound-place
bounds-bound-place c =
    let there = span-there c.args.table.now c.requires.table c.args.part c.requires.part in
    omega (arith, there.1, there.2, c.requires.bound.costs.long, c.requires.table.sized.few)

pub overflow_sub-place : goal.overflow_sub-place
overflow_sub-place c =
    let there = span-there c.args.table.now c.requires.table c.args.part c.requires.part in
    omega (arith, there.1)

pub loop-class-preserved : goal.loop-class-preserved
loop-class-preserved c =
    let t = c.args.table.now in
    let k = c.args.part in
    let class = c.loop-class.class in
    let l = c.loop-class.level in
    let before = c.loop-class.invariant in
    let there = span-there t c.requires.table k c.requires.part in
    elim c.if-saturating_sub-spare.branch [
      | then-saturating_sub-spare w ↦
          let come : get_or l.chosen.items k None ≡ None = ap (λ (x : Level). get_or x.chosen.items k None) before.narrowed.same ∙ c.requires.come in
          let above : c.args.limit + c.args.bound.owed - c.args.bound.sum < c.saturating_sub.result = omega (arith, w.if-saturating_sub-spare.true) in
          let more : get_or c.args.bound.leasts.now k 0 + (c.args.limit + c.args.bound.owed - c.args.bound.sum) < get_or c.args.bound.costs.now (class - t.first) 0
          = omega (arith, above, c.saturating_sub.ensures) in
          let useless : IsUseless t l c.args.limit class = too-dear t c.args.groups.now l c.args.bound c.args.limit k class _ c.requires.table
          (places-narrowed t c.args.limit t.size c.args.level.now l before.narrowed c.requires.places) c.requires.groups
          (node-narrowed t c.args.limit c.args.level.now l before.narrowed c.requires.node) before.bound c.requires.above there.0 come (omega arith) (omega arith) more in
          let here = class-in t k class _ c.requires.table there.0 (omega arith) (omega arith) in
          rw w.level-is (record {
            narrowed = narrowed-trans t c.args.limit c.args.level.now l _ before.narrowed (narrowed-out t c.args.limit class l _ c.requires.table here useless refl refl);
            bound = bound-out t c.args.groups.now class l _ c.args.bound refl refl before.bound;
          })
      | else-saturating_sub-spare w ↦ rw w.level-is before
    ]
