use Rattle.std.proofs.Common.{drop}
use Rattle.tt_score.specs.Additions.{rule_cost}
use Rattle.tt_score.specs.Apart.{cost_apart}
use Rattle.tt_score.proofs.CostWalk.{IsSumUpTo}
use Rattle.tt_score.proofs.trial.costs_without.Given as goal

abbrev pub invariant-loop-at : goal.invariant-loop-at
invariant-loop-at l =
    IsSumUpTo l.class l.problem.rules (rule_cost l.problem l.occupancy.spots) (cost_apart l.problem l.occupancy.spots l.class) l.distribution (drop l.at-index l.at-items)
