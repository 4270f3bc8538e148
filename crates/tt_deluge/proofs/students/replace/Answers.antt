use Rattle.std.proofs.Common.{◌≡◌, ◌++◌, ℕ, List, ap, sym, ◌∙◌, subst}
use Rattle.tt_problem.specs.Valid.{IsValid}
use Rattle.tt_state.specs.Desk.{Desk}
use Rattle.tt_state.specs.Snapshots.{classes_in_order, with_list}
use Rattle.tt_deluge.proofs.StudentLemmas.{list_below, made_is, refused, stands_is}
use Rattle.tt_deluge.proofs.students.replace.Goals as goal

pub section_fault-requires-clause-classes : goal.section_fault-requires-clause-classes
section_fault-requires-clause-classes c =
    let h = c.args.state.now in
    let b = c.args.buffers.now in
    let valid = subst IsValid c.problem.ensures c.validity.ensures in
    let list : c.as_slice-2.result.now ≡ b.rest.items ++ b.choice.items = c.as_slice-2.ensures.value ∙ c.in_ok-extend_from_slice.ensures.items ∙ ap (λ (l : List ℕ). b.rest.items ++ l) c.as_slice.ensures.value in
    list_below h.problem h.present c.args.student c.args.course valid c.soundness.ensures.present c.requires.target b.rest.items b.own.items b.choice.items c.as_slice-2.result.now c.requires.rest list c.requires.below

pub returns-then-is_some-clause-made : goal.returns-then-is_some-clause-made
returns-then-is_some-clause-made c =
    let h = c.args.state.now in
    let b = c.args.buffers.now in
    let valid = subst IsValid c.problem.ensures c.validity.ensures in
    let list : c.as_slice-2.result.now ≡ b.rest.items ++ b.choice.items = c.as_slice-2.ensures.value ∙ c.in_ok-extend_from_slice.ensures.items ∙ ap (λ (l : List ℕ). b.rest.items ++ l) c.as_slice.ensures.value in
    refused h.problem h.present c.args.student c.args.course valid c.soundness.ensures.present c.requires.target b.rest.items b.own.items b.choice.items c.as_slice-2.result.now c.requires.rest list
    c.args.level c.section_fault.result c.section_fault.ensures.fault (sym c.is_some.ensures ∙ c.if-is_some.true)

pub section_step-requires-clause-classes : goal.section_step-requires-clause-classes
section_step-requires-clause-classes c =
    let h = c.args.state.now in
    let b = c.args.buffers.now in
    let valid = subst IsValid c.problem.ensures c.validity.ensures in
    let list : c.as_slice-2.result.now ≡ b.rest.items ++ b.choice.items = c.as_slice-2.ensures.value ∙ c.in_ok-extend_from_slice.ensures.items ∙ ap (λ (l : List ℕ). b.rest.items ++ l) c.as_slice.ensures.value in
    let same : c.as_slice-3.result.now ≡ c.as_slice-2.result.now = c.as_slice-3.ensures.value ∙ sym c.as_slice-2.ensures.value in
    list_below h.problem h.present c.args.student c.args.course valid c.soundness.ensures.present c.requires.target b.rest.items b.own.items b.choice.items c.as_slice-3.result.now c.requires.rest (same ∙ list) c.requires.below

pub returns-clause-made : goal.returns-clause-made
returns-clause-made c =
    let h = c.args.state.now in
    let b = c.args.buffers.now in
    let valid = subst IsValid c.problem.ensures c.validity.ensures in
    let list : c.as_slice-2.result.now ≡ b.rest.items ++ b.choice.items = c.as_slice-2.ensures.value ∙ c.in_ok-extend_from_slice.ensures.items ∙ ap (λ (l : List ℕ). b.rest.items ++ l) c.as_slice.ensures.value in
    let same : c.as_slice-3.result.now ≡ c.as_slice-2.result.now = c.as_slice-3.ensures.value ∙ sym c.as_slice-2.ensures.value in
    let none = sym c.is_some.ensures ∙ c.if-is_some.false in
    let present : c.section_step.new.self.present ≡ with_list h.present c.args.student (classes_in_order c.as_slice-2.result.now) = ap (λ (d : Desk). d.present) c.in_ok-section_step.ensures.desk ∙ ap (λ (l : List ℕ). with_list h.present c.args.student (classes_in_order l)) same in
    made_is h.problem h.present c.args.student c.args.course valid c.soundness.ensures.present c.requires.target b.rest.items b.own.items b.choice.items c.as_slice-2.result.now c.requires.rest list
    c.args.level c.section_step.new.self.present c.section_fault.result c.section_fault.ensures.fault none (sym c.eq.ensures ∙ c.if-eq.false) (sym c.is_within.ensures ∙ c.if-not-is_within.false) present

pub returns-clause-stands : goal.returns-clause-stands
returns-clause-stands c =
    let h = c.args.state.now in
    let b = c.args.buffers.now in
    let valid = subst IsValid c.problem.ensures c.validity.ensures in
    let list : c.as_slice-2.result.now ≡ b.rest.items ++ b.choice.items = c.as_slice-2.ensures.value ∙ c.in_ok-extend_from_slice.ensures.items ∙ ap (λ (l : List ℕ). b.rest.items ++ l) c.as_slice.ensures.value in
    let same : c.as_slice-3.result.now ≡ c.as_slice-2.result.now = c.as_slice-3.ensures.value ∙ sym c.as_slice-2.ensures.value in
    let none = sym c.is_some.ensures ∙ c.if-is_some.false in
    let present : c.section_step.new.self.present ≡ with_list h.present c.args.student (classes_in_order c.as_slice-2.result.now) = ap (λ (d : Desk). d.present) c.in_ok-section_step.ensures.desk ∙ ap (λ (l : List ℕ). with_list h.present c.args.student (classes_in_order l)) same in
    stands_is h.problem h.present c.args.student c.args.course valid c.soundness.ensures.present c.requires.target b.rest.items b.own.items b.choice.items c.as_slice-2.result.now c.requires.rest list
    c.section_step.new.self.present c.section_fault.result c.section_fault.ensures.fault none present
