use Rattle.std.proofs.Common.{ℕ, ◌<◌, ◌≤◌, length}
use Rattle.tt_plan.specs.Domain.{domain_of}
use Rattle.tt_search.proofs.least.largest_domain.Given as goal

abbrev pub invariant-loop-class : goal.invariant-loop-class
invariant-loop-class l = (class : ℕ) → class < l.class → length (domain_of l.problem class) ≤ l.most
