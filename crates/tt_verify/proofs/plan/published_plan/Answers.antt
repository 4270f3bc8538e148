use Rattle.std.proofs.Common.{◌≡◌, ◌∙◌, ℕ, ap, arith, map}
use Rattle.std.specs.Prelude.{IfSome}
use Rattle.std.specs.List.{range_with_len}
use Rattle.std.proofs.lemmas.Grind.{common_steps}
use Rattle.std.proofs.lemmas.List.FromFn.{map-range_with_len_more}
use borrow.Author.Count.{below_more}
use Rattle.tt_plan.specs.Domain.{IsOfDomain}
use Rattle.tt_published.specs.Published.{published_plan, published_value}
use Rattle.tt_verify.proofs.PlanLemmas.{IsPlanOf-published}
use Rattle.tt_verify.proofs.plan.published_plan.Goals as goal

pub loop-class-preserved : goal.loop-class-preserved
loop-class-preserved c =
    let p = c.args.problem.now in
    let t = c.args.published.now in
    let n = c.loop-class.class in
    let more = map-range_with_len_more (published_value p t) 0 n n (omega arith) in
    record {
      plan = grind (arith, common_steps, more);
      domain = below_more (λ k. IfSome (published_value p t k) (IsOfDomain p k)) n c.loop-class.invariant.domain (rw c.published_value.ensures.value at c.published_value.ensures.domain);
    }

pub returns-clause-domain : goal.returns-clause-domain
returns-clause-domain c =
    let p = c.args.problem.now in
    let t = c.args.published.now in
    let same : c.loop-class.plan.items ≡ published_plan p t = c.loop-class.invariant.plan ∙ ap (λ (k : ℕ). map (published_value p t) (range_with_len 0 k)) (omega arith) in
    rw same (IsPlanOf-published p t (λ k below. c.loop-class.invariant.domain k (omega arith)))
