use Rattle.std.proofs.Common.{◌≡◌, ◌∙◌, ◌+◌, get_or, drop, arith, ap}
use Rattle.tt_problem.specs.declared.parts.RulePlace.{RulePlace}
use Rattle.tt_score.specs.Amounts.{cost_of}
use Rattle.tt_score.specs.Additions.{rule_cost}
use Rattle.tt_score.specs.Apart.{cost_apart}
use Rattle.tt_score.specs.Members.{IsGroupOf}
use Rattle.tt_score.proofs.AmountLemmas.{amount_is}
use Rattle.tt_score.proofs.CostLemmas.{apart_at, apart_off}
use Rattle.tt_score.proofs.CostWalk.{IsSumUpTo-start, rule_within, IsSumAt, IsSumAt-next, IsSumUpTo-next, IsSumUpTo-end}
use Rattle.tt_score.proofs.MemberLemmas.{group_at}
use Rattle.tt_score.proofs.trial.costs_without.Goals as goal
use Rattle.tt_score.proofs.trial.costs_without.Goals.{After-rule-rule, After-cost_of-distribution}

abbrev none : RulePlace
none = record { rule = 0; place = 0 }

-- where the walk stands
stands : (c : After-rule-rule)
    → IsSumAt c.args.class c.args.problem.now.rules (rule_cost c.args.problem.now c.args.occupancy.now.spots) (cost_apart c.args.problem.now c.args.occupancy.now.spots c.args.class) c.loop-at.distribution (get_or c.rules_of-at-items.result.now c.loop-at.at-index none)
    c.rule-rule.result.now (drop (c.loop-at.at-index + 1) c.rules_of-at-items.result.now)
stands c = IsSumAt-next _ _ _ _ _ _ _ none _ (apart_off c.args.problem.now c.args.occupancy.now.spots c.args.class) c.loop-at.invariant c.loop-at-test.true c.rule-rule.ensures.part

-- what is taken off is the cost of the rule
taken : (c : After-cost_of-distribution) → IsGroupOf c.args.problem.now c.args.occupancy.now.spots c.rule-rule.result.now c.index-groups-at.result
    → c.cost_of-distribution.result ≡ rule_cost c.args.problem.now c.args.occupancy.now.spots c.rule-rule.result.now
taken c of = c.cost_of-distribution.ensures.cost ∙ ap (cost_of c.args.problem.now c.rule-rule.result.now) (amount_is of c.amount-amount.ensures)

pub loop-at-init : goal.loop-at-init
loop-at-init c = rw c.rules_of-at-items.ensures (IsSumUpTo-start c.args.class c.args.problem.now.rules _ _ c.args.distribution c.requires.distribution)

pub rule-rule-requires : goal.rule-rule-requires
rule-rule-requires c = rule_within _ _ _ _ _ _ _ none c.loop-at.invariant c.loop-at-test.true

pub bounds-groups-at : goal.bounds-groups-at
bounds-groups-at c = omega (arith, (stands (goal.at.bounds-groups-at c).After-rule-rule).within, c.requires.groups.count)

pub overflow_sub-distribution : goal.overflow_sub-distribution
overflow_sub-distribution c =
    let at = goal.at.overflow_sub-distribution c in
    let walk = stands at.After-rule-rule in
    omega (arith, taken at.After-cost_of-distribution (group_at _ c.requires.groups walk.within walk.is c.index-groups-at.is), walk.part)

pub loop-at-preserved : goal.loop-at-preserved
loop-at-preserved c =
    let at = goal.at.loop-at-preserved c in
    let walk = stands at.After-rule-rule in
    let less = taken at.After-cost_of-distribution (group_at _ c.requires.groups walk.within walk.is c.index-groups-at.is) in
    IsSumUpTo-next _ _ _ _ _ _ _ _ _ walk (omega (arith, less, walk.part, apart_at c.args.problem.now c.args.occupancy.now.spots c.args.class c.rule-rule.result.now _ walk.here))

pub returns : goal.returns
returns c = IsSumUpTo-end _ _ _ _ _ c.rules_of-at-items.result.now c.loop-at.at-index (apart_off c.args.problem.now c.args.occupancy.now.spots c.args.class) c.loop-at.invariant (omega arith)
