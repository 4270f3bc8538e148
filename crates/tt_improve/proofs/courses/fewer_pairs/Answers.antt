use Rattle.std.proofs.Common.{◌≡◌, ℕ, List, Some, None, take, ap, sym, ◌∙◌, subst, arith, length-take}
use Rattle.std.specs.Prelude.{not}
use Rattle.tt_problem.specs.Valid.{IsValid}
use Rattle.tt_problem.proofs.SpanLemmas.{few_subparts}
use Rattle.tt_choice.specs.Least.{pairs_added}
use Rattle.tt_improve.specs.Courses.{beside, is_of_course}
use Rattle.tt_improve.proofs.StudentLemmas.{few_in, found_less, found_more, may_get_at, no_replacement, no_worse_at, replaces, within_courses}
use Rattle.tt_improve.proofs.courses.fewer_pairs.Goals as goal

pub pairs_of-had-requires-clause-few_already : goal.pairs_of-had-requires-clause-few_already
pairs_of-had-requires-clause-few_already c =
    let h = c.args.state.now in
    let valid = subst IsValid c.problem.ensures c.validity.ensures in
    let few = few_in h.problem h.present c.args.student (λ (class : ℕ). not (is_of_course h.problem c.args.course class)) c.args.rest.now valid c.soundness.ensures.present c.requires.target.within c.requires.rest in
    omega (arith, few)

pub pairs_of-had-requires-clause-few : goal.pairs_of-had-requires-clause-few
pairs_of-had-requires-clause-few c =
    let h = c.args.state.now in
    let valid = subst IsValid c.problem.ensures c.validity.ensures in
    few_in h.problem h.present c.args.student (is_of_course h.problem c.args.course) c.args.own.now valid c.soundness.ensures.present c.requires.target.within c.requires.own

pub least_of_course-requires-clause-course : goal.least_of_course-requires-clause-course
least_of_course-requires-clause-course c =
    let h = c.args.state.now in
    let valid = subst IsValid c.problem.ensures c.validity.ensures in
    within_courses h.problem h.present c.args.student c.args.course valid c.soundness.ensures.present c.requires.target

pub least_of_course-requires-clause-few_already : goal.least_of_course-requires-clause-few_already
least_of_course-requires-clause-few_already c =
    let h = c.args.state.now in
    let valid = subst IsValid c.problem.ensures c.validity.ensures in
    let few = few_in h.problem h.present c.args.student (λ (class : ℕ). not (is_of_course h.problem c.args.course class)) c.args.rest.now valid c.soundness.ensures.present c.requires.target.within c.requires.rest in
    omega (arith, few)

pub returns-in_default-clause-choice : goal.returns-in_default-clause-choice
returns-in_default-clause-choice c =
    let h = c.args.state.now in
    let valid = subst IsValid c.problem.ensures c.validity.ensures in
    no_replacement h.problem h.present c.args.student c.args.course c.args.rest.now c.args.own.now
    (replaces h.problem h.present c.args.student c.args.course valid c.soundness.ensures.present c.requires.target c.args.rest.now c.args.own.now c.requires.rest c.requires.own None (sym c.in_default.ensures.choice))

pub pairs_of-requires-clause-few_already : goal.pairs_of-requires-clause-few_already
pairs_of-requires-clause-few_already c =
    let h = c.args.state.now in
    let valid = subst IsValid c.problem.ensures c.validity.ensures in
    let few = few_in h.problem h.present c.args.student (λ (class : ℕ). not (is_of_course h.problem c.args.course class)) c.args.rest.now valid c.soundness.ensures.present c.requires.target.within c.requires.rest in
    omega (arith, few)

pub pairs_of-requires-clause-few : goal.pairs_of-requires-clause-few
pairs_of-requires-clause-few c =
    let h = c.args.state.now in
    let valid = subst IsValid c.problem.ensures c.validity.ensures in
    omega (arith, length-take c.in-Some.size c.as_slice.result.now, c.in-Some.ensures.few, few_subparts h.problem valid)

pub returns-then-pairs_of-had-clause-choice : goal.returns-then-pairs_of-had-clause-choice
returns-then-pairs_of-had-clause-choice c =
    let h = c.args.state.now in
    let valid = subst IsValid c.problem.ensures c.validity.ensures in
    let best = c.least_of_course.new.buffers.best.items in
    let pairs = pairs_added (beside h.problem h.present c.args.student c.args.rest.now) in
    let here : c.pairs_of.result ≡ pairs (take c.in-Some.size best) = c.pairs_of.ensures ∙ ap (λ (l : List ℕ). pairs (take c.in-Some.size l)) c.as_slice.ensures.value in
    let least = replaces h.problem h.present c.args.student c.args.course valid c.soundness.ensures.present c.requires.target c.args.rest.now c.args.own.now c.requires.rest c.requires.own
    (Some (take c.in-Some.size best)) (sym c.in-Some.ensures.choice) in
    found_less h.problem h.present c.args.student c.args.course c.args.rest.now c.args.own.now best c.in-Some.size least (omega (arith, here, c.pairs_of-had.ensures, c.if-pairs_of-had.true))

pub returns-then-pairs_of-had-clause-may : goal.returns-then-pairs_of-had-clause-may
returns-then-pairs_of-had-clause-may c =
    let h = c.args.state.now in
    let valid = subst IsValid c.problem.ensures c.validity.ensures in
    may_get_at h.problem h.present c.args.student c.args.course valid c.soundness.ensures.present c.requires.target c.args.rest.now c.args.own.now c.requires.rest c.requires.own
    (take c.in-Some.size c.least_of_course.new.buffers.best.items) (sym c.in-Some.ensures.choice)

pub returns-then-pairs_of-had-clause-no_worse : goal.returns-then-pairs_of-had-clause-no_worse
returns-then-pairs_of-had-clause-no_worse c =
    let h = c.args.state.now in
    let valid = subst IsValid c.problem.ensures c.validity.ensures in
    let best = c.least_of_course.new.buffers.best.items in
    let pairs = pairs_added (beside h.problem h.present c.args.student c.args.rest.now) in
    let here : c.pairs_of.result ≡ pairs (take c.in-Some.size best) = c.pairs_of.ensures ∙ ap (λ (l : List ℕ). pairs (take c.in-Some.size l)) c.as_slice.ensures.value in
    no_worse_at h.problem h.present c.args.student c.args.course valid c.soundness.ensures.present c.requires.target c.args.rest.now c.args.own.now c.requires.rest c.requires.own
    (take c.in-Some.size best) (sym c.in-Some.ensures.choice) (omega (arith, here, c.pairs_of-had.ensures, c.if-pairs_of-had.true))

pub returns-else-pairs_of-had-clause-choice : goal.returns-else-pairs_of-had-clause-choice
returns-else-pairs_of-had-clause-choice c =
    let h = c.args.state.now in
    let valid = subst IsValid c.problem.ensures c.validity.ensures in
    let best = c.least_of_course.new.buffers.best.items in
    let pairs = pairs_added (beside h.problem h.present c.args.student c.args.rest.now) in
    let here : c.pairs_of.result ≡ pairs (take c.in-Some.size best) = c.pairs_of.ensures ∙ ap (λ (l : List ℕ). pairs (take c.in-Some.size l)) c.as_slice.ensures.value in
    let least = replaces h.problem h.present c.args.student c.args.course valid c.soundness.ensures.present c.requires.target c.args.rest.now c.args.own.now c.requires.rest c.requires.own
    (Some (take c.in-Some.size best)) (sym c.in-Some.ensures.choice) in
    found_more h.problem h.present c.args.student c.args.course c.args.rest.now c.args.own.now best c.in-Some.size least (omega (arith, here, c.pairs_of-had.ensures, c.if-pairs_of-had.false))
