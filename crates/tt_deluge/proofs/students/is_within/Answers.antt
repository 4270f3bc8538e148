use Rattle.std.proofs.Common.{◌≡◌, ℕ, ◌-◌, ◌*◌, List, refl, ap, ◌∙◌, subst, arith}
use Rattle.std.specs.Prelude.{not}
use Rattle.tt_problem.specs.declared.parts.Parts.{Parts}
use Rattle.tt_problem.specs.declared.parts.Weights.{Weights}
use Rattle.tt_problem.specs.Valid.{IsValid}
use Rattle.tt_score.specs.declared.totals.Totals.{Totals}
use Rattle.tt_choice.specs.Least.{pairs_added}
use Rattle.tt_improve.specs.Classes.{total_of}
use Rattle.tt_improve.specs.Courses.{beside, is_of_course}
use Rattle.tt_improve.proofs.StudentLemmas.{few_in}
use Rattle.tt_deluge.proofs.StudentLemmas.{had_low, level_low, level_past, level_tested}
use Rattle.tt_deluge.proofs.students.is_within.Goals as goal

weighed : (w v n k : ℕ) → w ≡ v → n ≡ k → w * n ≡ v * k
weighed w v n k weights are = ap (λ (x : ℕ). x * n) weights ∙ ap (λ (m : ℕ). v * m) are

pub pairs_of-requires-clause-few_already : goal.pairs_of-requires-clause-few_already
pairs_of-requires-clause-few_already c =
    let h = c.args.state.now in
    let valid = subst IsValid c.problem.ensures c.validity.ensures in
    let few = few_in h.problem h.present c.args.student (λ (class : ℕ). not (is_of_course h.problem c.args.course class)) c.as_slice-rest.result.now valid c.soundness.ensures.present c.requires.target.within (c.as_slice-rest.ensures.value ∙ c.requires.rest) in
    omega (arith, few)

pub pairs_of-requires-2-clause-few_already : goal.pairs_of-requires-2-clause-few_already
pairs_of-requires-2-clause-few_already c =
    let h = c.args.state.now in
    let valid = subst IsValid c.problem.ensures c.validity.ensures in
    let few = few_in h.problem h.present c.args.student (λ (class : ℕ). not (is_of_course h.problem c.args.course class)) c.as_slice-rest.result.now valid c.soundness.ensures.present c.requires.target.within (c.as_slice-rest.ensures.value ∙ c.requires.rest) in
    omega (arith, few)

pub pairs_of-requires-2-clause-few : goal.pairs_of-requires-2-clause-few
pairs_of-requires-2-clause-few c =
    let h = c.args.state.now in
    let valid = subst IsValid c.problem.ensures c.validity.ensures in
    few_in h.problem h.present c.args.student (is_of_course h.problem c.args.course) c.as_slice-2.result.now valid c.soundness.ensures.present c.requires.target.within (c.as_slice-2.ensures.value ∙ c.requires.own)

pub overflow_sub-result : goal.overflow_sub-result
overflow_sub-result c =
    let h = c.args.state.now in
    let b = c.args.buffers.now in
    let valid = subst IsValid c.problem.ensures c.validity.ensures in
    let weighs : c.from-weight.result ≡ h.problem.weights.student = c.from-weight.ensures ∙ ap (λ (w : Weights). w.student) c.weights.ensures.value ∙ ap (λ (p : Parts). p.weights.student) c.problem-2.ensures in
    let pairs = λ (rest list : List ℕ). pairs_added (beside h.problem h.present c.args.student rest) list in
    let adds : c.from.result ≡ pairs b.rest.items b.choice.items = c.from.ensures ∙ c.pairs_of.ensures ∙ ap (λ (l : List ℕ). pairs l c.as_slice.result.now) c.as_slice-rest.ensures.value ∙ ap (pairs b.rest.items) c.as_slice.ensures.value in
    let added = weighed c.from-weight.result h.problem.weights.student c.from.result (pairs b.rest.items b.choice.items) weighs adds in
    let had : c.from-2.result ≡ pairs b.rest.items b.own.items = c.from-2.ensures ∙ c.pairs_of-2.ensures ∙ ap (λ (l : List ℕ). pairs l c.as_slice-2.result.now) c.as_slice-rest.ensures.value ∙ ap (pairs b.rest.items) c.as_slice-2.ensures.value in
    let paid = weighed c.from-weight.result h.problem.weights.student c.from-2.result (pairs b.rest.items b.own.items) weighs had in
    let total = ap (λ (t : Totals). t.total) c.totals-total.ensures in
    had_low h.problem h.present c.args.student c.args.course valid c.soundness.ensures.present c.requires.target b.rest.items b.own.items b.choice.items c.requires.rest c.requires.own c.totals-total.result.total
    (c.from-weight.result * c.from-2.result) (c.from-weight.result * c.from.result) total paid added

pub returns-then-level-adds : goal.returns-then-level-adds
returns-then-level-adds c =
    let h = c.args.state.now in
    let b = c.args.buffers.now in
    let valid = subst IsValid c.problem.ensures c.validity.ensures in
    let weighs : c.from-weight.result ≡ h.problem.weights.student = c.from-weight.ensures ∙ ap (λ (w : Weights). w.student) c.weights.ensures.value ∙ ap (λ (p : Parts). p.weights.student) c.problem-2.ensures in
    let pairs = λ (rest list : List ℕ). pairs_added (beside h.problem h.present c.args.student rest) list in
    let adds : c.from.result ≡ pairs b.rest.items b.choice.items = c.from.ensures ∙ c.pairs_of.ensures ∙ ap (λ (l : List ℕ). pairs l c.as_slice.result.now) c.as_slice-rest.ensures.value ∙ ap (pairs b.rest.items) c.as_slice.ensures.value in
    let added = weighed c.from-weight.result h.problem.weights.student c.from.result (pairs b.rest.items b.choice.items) weighs adds in
    level_past h.problem h.present c.args.student c.args.course valid c.soundness.ensures.present c.requires.target b.rest.items b.own.items b.choice.items c.requires.rest c.requires.own (total_of h.problem h.present)
    (h.problem.weights.student * pairs b.rest.items b.own.items) (c.from-weight.result * c.from.result) refl refl added
    c.args.level c.if-level-adds.true

pub returns-then-total-level : goal.returns-then-total-level
returns-then-total-level c =
    let h = c.args.state.now in
    let b = c.args.buffers.now in
    let valid = subst IsValid c.problem.ensures c.validity.ensures in
    let weighs : c.from-weight.result ≡ h.problem.weights.student = c.from-weight.ensures ∙ ap (λ (w : Weights). w.student) c.weights.ensures.value ∙ ap (λ (p : Parts). p.weights.student) c.problem-2.ensures in
    let pairs = λ (rest list : List ℕ). pairs_added (beside h.problem h.present c.args.student rest) list in
    let adds : c.from.result ≡ pairs b.rest.items b.choice.items = c.from.ensures ∙ c.pairs_of.ensures ∙ ap (λ (l : List ℕ). pairs l c.as_slice.result.now) c.as_slice-rest.ensures.value ∙ ap (pairs b.rest.items) c.as_slice.ensures.value in
    let added = weighed c.from-weight.result h.problem.weights.student c.from.result (pairs b.rest.items b.choice.items) weighs adds in
    let total = ap (λ (t : Totals). t.total) c.totals-total.ensures in
    level_low h.problem h.present c.args.student c.args.course valid c.soundness.ensures.present c.requires.target b.rest.items b.own.items b.choice.items c.requires.rest c.requires.own c.totals-total.result.total
    (h.problem.weights.student * pairs b.rest.items b.own.items) (c.from-weight.result * c.from.result) total refl added
    c.args.level c.if-level-adds.false c.if-total-level.true

pub returns : goal.returns
returns c =
    let h = c.args.state.now in
    let b = c.args.buffers.now in
    let valid = subst IsValid c.problem.ensures c.validity.ensures in
    let weighs : c.from-weight.result ≡ h.problem.weights.student = c.from-weight.ensures ∙ ap (λ (w : Weights). w.student) c.weights.ensures.value ∙ ap (λ (p : Parts). p.weights.student) c.problem-2.ensures in
    let pairs = λ (rest list : List ℕ). pairs_added (beside h.problem h.present c.args.student rest) list in
    let adds : c.from.result ≡ pairs b.rest.items b.choice.items = c.from.ensures ∙ c.pairs_of.ensures ∙ ap (λ (l : List ℕ). pairs l c.as_slice.result.now) c.as_slice-rest.ensures.value ∙ ap (pairs b.rest.items) c.as_slice.ensures.value in
    let added = weighed c.from-weight.result h.problem.weights.student c.from.result (pairs b.rest.items b.choice.items) weighs adds in
    let had : c.from-2.result ≡ pairs b.rest.items b.own.items = c.from-2.ensures ∙ c.pairs_of-2.ensures ∙ ap (λ (l : List ℕ). pairs l c.as_slice-2.result.now) c.as_slice-rest.ensures.value ∙ ap (pairs b.rest.items) c.as_slice-2.ensures.value in
    let paid = weighed c.from-weight.result h.problem.weights.student c.from-2.result (pairs b.rest.items b.own.items) weighs had in
    let total = ap (λ (t : Totals). t.total) c.totals-total.ensures in
    let low = had_low h.problem h.present c.args.student c.args.course valid c.soundness.ensures.present c.requires.target b.rest.items b.own.items b.choice.items c.requires.rest c.requires.own c.totals-total.result.total
    (c.from-weight.result * c.from-2.result) (c.from-weight.result * c.from.result) total paid added in
    level_tested h.problem h.present c.args.student c.args.course valid c.soundness.ensures.present c.requires.target b.rest.items b.own.items b.choice.items c.requires.rest c.requires.own c.totals-total.result.total
    (c.from-weight.result * c.from-2.result) (c.from-weight.result * c.from.result) total paid added
    (c.totals-total.result.total - c.from-weight.result * c.from-2.result) c.args.level (omega (arith, low)) c.if-level-adds.false
