use Rattle.std.proofs.Common.{◌≡◌, ◌++◌, [], ◌∷◌, ap, ◌∙◌, rules}
use Rattle.std.specs.List.{flat_map}
use Rattle.tt_problem.specs.declared.parts.Parts.{Parts}
use Rattle.tt_explain.specs.Student.{class_line}
use Rattle.tt_explain.proofs.LineLemmas.{next_written, all_written, class_lines-more, class_lines-none}
use Rattle.tt_explain.proofs.attending.add_class_lines.Goals as goal

pub loop-class-preserved : goal.loop-class-preserved
loop-class-preserved c =
    let p = c.args.state.now.problem in
    let next : c.loop-class.class-iterator ≡ c.in-Some.class ∷ c.next.new.self = search rules in
    next_written _ _ _ _ _ _ c.loop-class.invariant
    (class_lines-more p _ _ _ next)
    (c.in_ok-add_class_line.ensures ∙ ap (λ (q : Parts). c.loop-class.out ++ class_line q c.in-Some.class) c.problem.ensures)

pub returns : goal.returns
returns c =
    let p = c.args.state.now.problem in
    let none : c.loop-class.class-iterator ≡ [] = search rules in
    all_written _ _ _ c.loop-class.invariant (ap (flat_map (class_line p)) none ∙ class_lines-none p)
