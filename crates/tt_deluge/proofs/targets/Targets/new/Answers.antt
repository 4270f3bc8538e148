use Rattle.std.proofs.Common.{◌≤◌, length, map, ap, ◌∙◌, subst, arith}
use Rattle.std.proofs.lemmas.List.{length-map}
use Rattle.std.proofs.lemmas.Option.{slice_get-get_or}
use Rattle.tt_problem.specs.Valid.{IsValid}
use Rattle.tt_improve.specs.declared.targets.Target.TheVariants.{Class}
use Rattle.tt_deluge.specs.Views.{target_of}
use Rattle.tt_deluge.proofs.TargetLemmas.{choices_end, classes_end, course_at, few_choices, few_movable, kept_are}
use Rattle.tt_deluge.proofs.targets.Targets.new.Goals as goal

pub add-requires-clause-within : goal.add-requires-clause-within
add-requires-clause-within c =
    let h = c.args.state.now in
    let valid = subst IsValid c.problem.ensures c.validity.ensures in
    let items = c.as_slice-target-items.result.now in
    rw c.problem-in-loop-target.ensures
    (course_at h.problem h.present items c.loop-target.target-index _ valid c.soundness.ensures.present (c.as_slice-target-items.ensures.value ∙ c.in_ok-all.ensures.targets)
    (slice_get-get_or items c.loop-target.target-index (Class 0) (omega arith)))

pub returns-clause-targets : goal.returns-clause-targets
returns-clause-targets c =
    let h = c.args.state.now in
    let items = c.as_slice-target-items.result.now in
    let are = c.as_slice-target-items.ensures.value ∙ c.in_ok-all.ensures.targets in
    let past : length items ≤ c.loop-target.target-index = omega arith in
    kept_are h.problem h.present c.loop-target.targets
    (classes_end h.problem h.present items c.loop-target.target-index c.loop-target.targets.classes.items are past c.loop-target.invariant.classes)
    (choices_end h.problem h.present items c.loop-target.target-index (map target_of c.loop-target.targets.choices.items) are past c.loop-target.invariant.choices)

pub returns-clause-few_classes : goal.returns-clause-few_classes
returns-clause-few_classes c =
    let h = c.args.state.now in
    let items = c.as_slice-target-items.result.now in
    let are = c.as_slice-target-items.ensures.value ∙ c.in_ok-all.ensures.targets in
    let past : length items ≤ c.loop-target.target-index = omega arith in
    let all = classes_end h.problem h.present items c.loop-target.target-index c.loop-target.targets.classes.items are past c.loop-target.invariant.classes in
    omega (arith, ap length all, few_movable h.problem h.present (subst IsValid c.problem.ensures c.validity.ensures))

pub returns-clause-few_choices : goal.returns-clause-few_choices
returns-clause-few_choices c =
    let h = c.args.state.now in
    let items = c.as_slice-target-items.result.now in
    let are = c.as_slice-target-items.ensures.value ∙ c.in_ok-all.ensures.targets in
    let past : length items ≤ c.loop-target.target-index = omega arith in
    let all = choices_end h.problem h.present items c.loop-target.target-index (map target_of c.loop-target.targets.choices.items) are past c.loop-target.invariant.choices in
    omega (arith, ap length all, length-map c.loop-target.targets.choices.items target_of, few_choices h.problem h.present (subst IsValid c.problem.ensures c.validity.ensures))
