use Rattle.std.proofs.Common.{◌≡◌, drop}
use Rattle.std.specs.List.{find}
use Rattle.tt_plan.specs.Domain.{domain_of}
use Rattle.tt_published.specs.Published.{is_same, published_value}
use Rattle.tt_published.proofs.values.published_value.Given as goal

abbrev pub invariant-loop-k : goal.invariant-loop-k
invariant-loop-k l =
    find (is_same l.problem l.published l.class) (drop l.k (domain_of l.problem l.class)) ≡ published_value l.problem l.published l.class
