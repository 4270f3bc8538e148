use Rattle.std.proofs.Common.{◌≡◌, ◌∙◌, ◌+◌, ◌<◌, ◌≤◌, ◌^◌, Some, ap, sym, refl, arith}
use Rattle.tt_roster.specs.Conflicts.{class_conflicts}
use Rattle.tt_score.specs.Amounts.{cost_sum}
use Rattle.tt_score.specs.Apart.{cost_sum_without}
use Rattle.tt_score.specs.Below.{below}
use Rattle.tt_score.specs.declared.totals.Without.{Without}
use Rattle.tt_plan.specs.Domain.{spots_of}
use Rattle.tt_score.proofs.CostLemmas.{few_without}
use Rattle.tt_score.proofs.TotalLemmas.{below_none, below_some}
use Rattle.tt_score.proofs.TriedLemmas.{AreConflicts, IsPaidThen, conflicts_are, conflicts_then, costs_then, others_least, rest_least, spots_are, total_is, total_least}
use Rattle.tt_score.proofs.score.Score.trial_below.Goals as goal
use Rattle.tt_score.proofs.score.Score.trial_below.Goals.{After-paid_with-paid, After-sure_gain-sure, After-costs_at-distribution, After-class_gain-more}

-- what all classes pay for their times and rooms with the class at the value
paid : (c : After-paid_with-paid) → IsPaidThen c.args.problem.now c.args.self.now c.args.placement.now.class c.args.placement.now.value c.paid_with-paid.result
paid c = record { time = rw c.as_slice.ensures.value at c.paid_with-paid.ensures.time; room = rw c.as_slice.ensures.value at c.paid_with-paid.ensures.room }

-- the rules without those of the class cost no more
rest : (c : After-paid_with-paid) → c.args.without.distribution ≤ costs_then c.args.problem.now c.args.self.now c.args.placement.now.class c.args.placement.now.value
rest c =
    let is = ap (λ (w : Without). w.distribution) c.requires.without ∙ ap (λ l. cost_sum_without c.args.problem.now l c.args.placement.now.class) (sym c.requires.fits.kept.spots) in
    omega (arith, is, rest_least c.args.problem.now c.args.self.now c.args.placement.now.class c.args.placement.now.value c.requires.fits)

-- they are few
few : (c : After-paid_with-paid) → c.args.without.distribution < 2 ^ 100
few c =
    let is = ap (λ (w : Without). w.distribution) c.requires.without in
    omega (arith, is, few_without c.args.problem.now (spots_of c.args.problem.now c.args.self.now.plan.items) c.args.placement.now.class c.requires.fits.kept.valid)

pub total-requires-clause-few_costs : goal.total-requires-clause-few_costs
total-requires-clause-few_costs c = few (goal.at.total-requires-clause-few_costs c).After-paid_with-paid

pub total-requires-2-clause-few_costs : goal.total-requires-2-clause-few_costs
total-requires-2-clause-few_costs c = few (goal.at.total-requires-2-clause-few_costs c).After-paid_with-paid

-- the students of the class then
students : (c : After-sure_gain-sure) → AreConflicts c.args.problem.now c.args.self.now c.args.placement.now.class c.args.placement.now.value c.args.without.student (class_conflicts c.args.problem.now.travel c.args.self.now.roster.spots c.args.self.now.roster.seats c.args.placement.now.class c.args.placement.now.spot)
students c = conflicts_are c.args.problem.now c.args.self.now c.args.placement.now.class c.args.placement.now.value c.args.placement.now.spot c.args.without.student _ c.requires.fits c.requires.placement.value c.requires.placement.spot (ap (λ (w : Without). w.student) c.requires.without) refl

-- those who are sure are some of them
sure : (c : After-sure_gain-sure) → c.args.without.student + c.sure_gain-sure.result ≤ conflicts_then c.args.problem.now c.args.self.now c.args.placement.now.class c.args.placement.now.value
sure c = omega (arith, c.sure_gain-sure.ensures.part c.args.problem.now c.requires.fits.roster, (students c).sum)

-- the rules then
costs : (c : After-costs_at-distribution) → c.costs_at-distribution.result ≡ costs_then c.args.problem.now c.args.self.now c.args.placement.now.class c.args.placement.now.value
costs c =
    let s = c.args.self.now in
    c.costs_at-distribution.ensures.costs ∙ ap (cost_sum c.args.problem.now) (spots_are c.args.problem.now s c.args.placement.now.class c.args.placement.now.value (Some c.args.placement.now.spot) s.occupancy.spots c.requires.fits c.requires.placement.spot refl)

-- all students, where they were asked
found : (c : After-class_gain-more) → AreConflicts c.args.problem.now c.args.self.now c.args.placement.now.class c.args.placement.now.value c.args.without.student c.class_gain-more.result
found c =
    conflicts_are c.args.problem.now c.args.self.now c.args.placement.now.class c.args.placement.now.value c.args.placement.now.spot c.args.without.student _ c.requires.fits c.requires.placement.value c.requires.placement.spot (ap (λ (w : Without). w.student) c.requires.without)
    (rw c.sure_gain-sure.ensures.same at c.class_gain-more.ensures.pairs)

pub returns-then-total-bound-clause-total : goal.returns-then-total-bound-clause-total
returns-then-total-bound-clause-total c =
    let at = goal.at.returns-then-total-bound-clause-total c in
    let others = others_least c.args.problem.now c.args.self.now c.args.placement.now.class c.args.placement.now.value c.args.without.student c.requires.fits c.requires.placement.value (ap (λ (w : Without). w.student) c.requires.without) in
    below_none c.args.bound _
    (omega (arith, c.if-total-bound.true, c.total.ensures, total_least c.args.problem.now c.args.self.now c.args.placement.now.class c.args.placement.now.value _ _ _ c.requires.fits (paid at.After-paid_with-paid) (rest at.After-paid_with-paid) others))

pub overflow_add-others : goal.overflow_add-others
overflow_add-others c = omega (arith, c.sure_gain-sure.ensures.part c.args.problem.now c.requires.fits.roster, (students (goal.at.overflow_add-others c).After-sure_gain-sure).few)

pub returns-then-total-bound-2-clause-total : goal.returns-then-total-bound-2-clause-total
returns-then-total-bound-2-clause-total c =
    let at = goal.at.returns-then-total-bound-2-clause-total c in
    below_none c.args.bound _
    (omega (arith, c.if-total-bound-2.true, c.total-2.ensures, total_least c.args.problem.now c.args.self.now c.args.placement.now.class c.args.placement.now.value _ _ _ c.requires.fits (paid at.After-paid_with-paid) (rest at.After-paid_with-paid) (sure at.After-sure_gain-sure)))

pub overflow_add-others-2 : goal.overflow_add-others-2
overflow_add-others-2 c = omega (arith, c.sure_gain-sure.ensures.part c.args.problem.now c.requires.fits.roster, (students (goal.at.overflow_add-others-2 c).After-sure_gain-sure).few)

pub returns-then-total-bound-3-clause-total : goal.returns-then-total-bound-3-clause-total
returns-then-total-bound-3-clause-total c =
    let at = goal.at.returns-then-total-bound-3-clause-total c in
    let rules : c.costs_at-distribution.result ≤ costs_then c.args.problem.now c.args.self.now c.args.placement.now.class c.args.placement.now.value = omega (arith, costs at.After-costs_at-distribution) in
    below_none c.args.bound _
    (omega (arith, c.if-total-bound-3.true, c.total-3.ensures, total_least c.args.problem.now c.args.self.now c.args.placement.now.class c.args.placement.now.value _ _ _ c.requires.fits (paid at.After-paid_with-paid) rules (sure at.After-sure_gain-sure)))

pub overflow_add-others-3 : goal.overflow_add-others-3
overflow_add-others-3 c = omega (arith, (found (goal.at.overflow_add-others-3 c).After-class_gain-more).few)

pub returns-then-total-bound-4-clause-total : goal.returns-then-total-bound-4-clause-total
returns-then-total-bound-4-clause-total c =
    let at = goal.at.returns-then-total-bound-4-clause-total c in
    below_some c.args.bound c.total-total.result c.if-total-bound-4.true
    ∙ ap (below c.args.bound)
    (c.total-total.ensures
    ∙ total_is c.args.problem.now c.args.self.now c.args.placement.now.class c.args.placement.now.value _ _ _ c.requires.fits (paid at.After-paid_with-paid) (costs at.After-costs_at-distribution) (found at.After-class_gain-more).sum)

pub returns-else-total-bound-4-clause-total : goal.returns-else-total-bound-4-clause-total
returns-else-total-bound-4-clause-total c =
    let at = goal.at.returns-else-total-bound-4-clause-total c in
    below_none c.args.bound _
    (omega (
      arith,
      c.if-total-bound-4.false,
      c.total-total.ensures,
      total_is c.args.problem.now c.args.self.now c.args.placement.now.class c.args.placement.now.value _ _ _ c.requires.fits (paid at.After-paid_with-paid) (costs at.After-costs_at-distribution) (found at.After-class_gain-more).sum,
    ))
