use Rattle.std.proofs.Common.{◌≡◌, ◌∙◌, ◌++◌, ◌+◌, true, false, ap, sym}
use Rattle.std.specs.Prelude.{nat_lt}
use Rattle.std.proofs.lemmas.Result.{on_ok_weaker}
use Rattle.tt_problem.specs.declared.parts.Parts.{Parts}
use Rattle.tt_explain.specs.declared.costing.ClassCosts.{ClassCosts}
use Rattle.tt_explain.specs.Costs.{class_cost_line, class_costs, is_costly_class}
use Rattle.tt_explain.proofs.LineLemmas.{not_written, written_if}
use Rattle.tt_explain.proofs.costing.add_costly_class.Goals as goal

pub returns-then-costs_something : goal.returns-then-costs_something
unfolding is_costly_class
returns-then-costs_something c =
    let s = c.args.state.now in
    let line = class_cost_line s.problem c.args.class (class_costs s.problem s.present c.args.class) in
    let same : c.class_costs-costs.result ≡ class_costs s.problem s.present c.args.class = c.class_costs-costs.ensures in
    let some : is_costly_class s.problem s.present c.args.class ≡ true = sym (ap (λ (k : ClassCosts). nat_lt 0 (k.time + k.room + k.conflicts)) same) ∙ sym c.costs_something.ensures ∙ c.if-costs_something.true in
    on_ok_weaker c.add_class_cost_line.result
    (λ written. written_if (is_costly_class s.problem s.present c.args.class) line c.args.out.now c.add_class_cost_line.new.out some
    (written
    ∙ ap (λ (q : Parts). c.args.out.now ++ class_cost_line q c.args.class c.class_costs-costs.result) c.problem.ensures
    ∙ ap (λ (k : ClassCosts). c.args.out.now ++ class_cost_line s.problem c.args.class k) same))
    c.add_class_cost_line.ensures

pub returns-else-costs_something : goal.returns-else-costs_something
unfolding is_costly_class
returns-else-costs_something c =
    let s = c.args.state.now in
    let same : c.class_costs-costs.result ≡ class_costs s.problem s.present c.args.class = c.class_costs-costs.ensures in
    let none : is_costly_class s.problem s.present c.args.class ≡ false = sym (ap (λ (k : ClassCosts). nat_lt 0 (k.time + k.room + k.conflicts)) same) ∙ sym c.costs_something.ensures ∙ c.if-costs_something.false in
    not_written (is_costly_class s.problem s.present c.args.class) (class_cost_line s.problem c.args.class (class_costs s.problem s.present c.args.class)) c.args.out.now none
