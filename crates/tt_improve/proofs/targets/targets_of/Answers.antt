use Rattle.std.proofs.Common.{◌≡◌, ◌++◌, List, length, map, ap, ◌∙◌, subst, arith}
use Rattle.tt_problem.specs.Valid.{IsValid}
use Rattle.tt_improve.specs.declared.targets.Target.{Target}
use Rattle.tt_improve.specs.declared.targets.Target.TheVariants.{Class}
use Rattle.tt_improve.specs.Targets.{movable_classes, targets_of, seated_courses}
use Rattle.tt_improve.proofs.TargetLemmas.{few_targets}
use Rattle.tt_improve.proofs.targets.targets_of.Goals as goal

pub returns-clause-few : goal.returns-clause-few
returns-clause-few c =
    let h = c.args.state.now in
    let few = few_targets h.problem h.present (subst IsValid c.problem.ensures c.validity.ensures) in
    let first : c.add_classes.new.targets.items ≡ map (λ class. Class class) (movable_classes h.problem h.present) =
    c.in_ok-add_classes.ensures ∙ ap (λ (xs : List Target). xs ++ map (λ class. Class class) (movable_classes h.problem h.present)) c.new-targets.ensures.items in
    let all : c.add_courses.new.targets.items ≡ targets_of h.problem h.present =
    c.in_ok-add_courses.ensures ∙ ap (λ (xs : List Target). xs ++ seated_courses h.problem h.present) first in
    omega (arith, few, ap length all)
