use Rattle.std.proofs.Common.{◌≡◌, ◌∙◌, List, [], ◌++◌, ap, sym, false}
use Rattle.std.proofs.lemmas.List.{append-nil}
use Rattle.tt_verify.specs.declared.violation.Violation.{Violation}
use Rattle.tt_explain.specs.Violations.{enrolment_fault}
use Rattle.tt_explain.proofs.WrongLemmas.{fault_of_sound}
use Rattle.tt_explain.proofs.wrong.add_enrolment_fault.Goals as goal

pub returns-else-lacks_classes : goal.returns-else-lacks_classes
returns-else-lacks_classes c =
    let p = c.args.state.now.problem in
    let s = c.args.state.now.present in
    let none : enrolment_fault p s c.args.student ≡ [] = fault_of_sound p s c.soundness.ensures.present.lists c.args.student false c.requires (sym c.lacks_classes.ensures ∙ c.if-lacks_classes.false) in
    sym (append-nil c.args.found.now.items) ∙ ap (λ (l : List Violation). c.args.found.now.items ++ l) (sym none)
