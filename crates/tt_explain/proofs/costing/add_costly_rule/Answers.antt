use Rattle.std.proofs.Common.{◌≡◌, ◌∙◌, ◌++◌, List, ℕ, ap}
use Rattle.std.specs.Prelude.{slice_get, Some}
use Rattle.std.proofs.lemmas.Result.{on_ok_weaker}
use Rattle.tt_plan.specs.Domain.{spots_of}
use Rattle.tt_explain.specs.Explain.{line_at}
use Rattle.tt_explain.specs.Costs.{is_costly_rule}
use Rattle.tt_explain.proofs.LineLemmas.{not_written}
use Rattle.tt_explain.proofs.TotalLaws.{required_place, soft_place}
use Rattle.tt_explain.proofs.costing.add_costly_rule.Goals as goal

pub returns-then-rule : goal.returns-then-rule
returns-then-rule c =
    let p = c.args.state.now.problem in
    let spots = spots_of p c.args.state.now.present.plan in
    let at : slice_get p.rules c.args.place ≡ Some c.rule.result.now = rw c.problem.ensures at c.rule.ensures.part in
    not_written (is_costly_rule p spots c.args.place) (line_at p spots c.args.place) c.args.out.now (required_place p spots c.args.place c.rule.result.now at c.if-rule.true)

pub returns : goal.returns
returns c =
    let p = c.args.state.now.problem in
    let spots = spots_of p c.args.state.now.present.plan in
    let at : slice_get p.rules c.args.place ≡ Some c.rule.result.now = rw c.problem.ensures at c.rule.ensures.part in
    on_ok_weaker c.add_rule_line.result
    (λ written. written ∙ ap (λ (l : List ℕ). c.args.out.now ++ l) (soft_place p spots c.args.place c.rule.result.now at c.if-rule.false))
    c.add_rule_line.ensures
