use Rattle.std.proofs.Common.{◌≡◌, ◌∙◌, ◌≤◌, ◌++◌, length, refl, ap, arith}
use Rattle.std.specs.Prelude.{slice_get, Some}
use Rattle.tt_problem.specs.declared.parts.Parts.{Parts}
use Rattle.tt_plan.specs.Domain.{domain_of}
use Rattle.tt_state.specs.History.{Contents}
use Rattle.tt_state.specs.Snapshots.{Snapshot}
use Rattle.tt_explain.specs.Values.{priced_line, values_lines}
use Rattle.tt_explain.proofs.LineLemmas.{all_written, next_written, priced_lines-more, priced_lines-none}
use Rattle.tt_explain.proofs.ValueLaws.{told_by_why}
use Rattle.tt_explain.proofs.pricing.values.Goals as goal

pub loop-k-init : goal.loop-k-init
unfolding values_lines
loop-k-init c = record { same = refl; lines = refl }

pub loop-k-preserved : goal.loop-k-preserved
loop-k-preserved c =
    let s = c.args.state.now in
    let same = c.loop-k.invariant.same in
    let problem : c.loop-k.state.problem ≡ s.problem = ap (λ (h : Contents). h.problem) same in
    let present : c.loop-k.state.present ≡ s.present = ap (λ (h : Contents). h.present) same in
    let at : slice_get (domain_of s.problem c.args.class) c.loop-k.k ≡ Some c.value_at-value.result = rw (c.problem-in-loop-k.ensures, problem) at c.value_at-value.ensures.value in
    record {
      same = c.in_ok-add_priced_line.ensures.same ∙ same;
      lines = next_written _ _ _ _ _ _ c.loop-k.invariant.lines
          (priced_lines-more s.problem s.present c.args.class (domain_of s.problem c.args.class) c.loop-k.k c.value_at-value.result at)
          (c.in_ok-add_priced_line.ensures.lines
          ∙ ap (λ (p : Parts). c.loop-k.out ++ priced_line p c.loop-k.state.present c.args.class c.value_at-value.result) problem
          ∙ ap (λ (now : Snapshot). c.loop-k.out ++ priced_line s.problem now c.args.class c.value_at-value.result) present);
    }

pub returns-in_err-add_priced_line-clause-why : goal.returns-in_err-add_priced_line-clause-why
returns-in_err-add_priced_line-clause-why c = told_by_why c.args.state.now.problem c.args.state.now.present c.args.class

pub returns-clause-lines : goal.returns-clause-lines
returns-clause-lines c =
    let s = c.args.state.now in
    let size = c.domain_size-k-end.ensures.size ∙ ap (λ (p : Parts). length (domain_of p c.args.class)) c.problem.ensures in
    let past : length (domain_of s.problem c.args.class) ≤ c.loop-k.k = omega (arith, size) in
    all_written _ _ _ c.loop-k.invariant.lines (priced_lines-none s.problem s.present c.args.class (domain_of s.problem c.args.class) c.loop-k.k past)

pub returns-clause-why : goal.returns-clause-why
returns-clause-why c = told_by_why c.args.state.now.problem c.args.state.now.present c.args.class
