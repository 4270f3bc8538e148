use Rattle.std.proofs.Common.{◌≡◌, ◌<◌, ℕ}
use Rattle.std.specs.Prelude.{IfSome, map}
use Rattle.std.specs.List.{range_with_len}
use Rattle.tt_plan.specs.Domain.{IsOfDomain}
use Rattle.tt_published.specs.Published.{published_value}
use Rattle.tt_verify.proofs.plan.published_plan.Given as goal

abbrev pub invariant-loop-class : goal.invariant-loop-class
invariant-loop-class l = record {
  plan : l.plan.items ≡ map (published_value l.problem l.published) (range_with_len 0 l.class);
  domain : (k : ℕ) → k < l.class → IfSome (published_value l.problem l.published k) (IsOfDomain l.problem k);
}
