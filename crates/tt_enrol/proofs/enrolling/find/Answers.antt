use Rattle.std.proofs.Common.{ℕ, List, ap, ◌∙◌}
use Rattle.std.proofs.lemmas.List.{with_items_is}
use Rattle.tt_choice.specs.Found.{chosen_by}
use Rattle.tt_enrol.specs.Students.{classes_found}
use Rattle.tt_enrol.proofs.enrolling.find.Goals as goal

pub returns-clause-found : goal.returns-clause-found
unfolding classes_found
returns-clause-found c =
    ap (λ (list : List ℕ). chosen_by list c.take_courses.result) (with_items_is c.args.buffers.now.already c.take_courses.new.already (c.take_courses.auto.already ∙ c.as_mut_slice.ensures.len))
    ∙ c.take_courses.ensures.found
