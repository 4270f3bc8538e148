use Rattle.std.proofs.Common.{◌≡◌, ℕ, List, Some, take, refl, ap, sym, ◌∙◌, subst}
use Rattle.tt_problem.specs.Valid.{IsValid}
use Rattle.tt_enrol.specs.Students.{classes_found}
use Rattle.tt_enrol.proofs.EnrolLemmas.{found_fits, on_err, enrolled_none, enrolled_some}
use Rattle.tt_enrol.proofs.all.enrol_one.Goals as goal

pub seat-requires-clause-may : goal.seat-requires-clause-may
seat-requires-clause-may c =
    let h = c.args.state.now in
    let count = c.in-Some.count in
    let valid = subst IsValid c.problem.ensures c.validity.ensures in
    let found : classes_found h.problem h.present c.args.student ≡ Some (take count c.as_slice.result.now) =
    sym c.in-Some.ensures.found ∙ ap (λ (list : List ℕ). Some (take count list)) (sym c.as_slice.ensures.value) in
    found_fits h.problem h.present c.args.student (take count c.as_slice.result.now) valid c.requires.student found

pub returns-in-None-clause-now : goal.returns-in-None-clause-now
returns-in-None-clause-now c =
    let h = c.args.state.now in
    enrolled_none h.problem h.present c.args.student (sym c.in-None.ensures.found)

pub returns-in_ok-seat-in-Some-clause-now : goal.returns-in_ok-seat-in-Some-clause-now
returns-in_ok-seat-in-Some-clause-now c =
    let h = c.args.state.now in
    let count = c.in-Some.count in
    enrolled_some h.problem h.present c.args.student (take count c.as_slice.result.now)
    (sym c.in-Some.ensures.found ∙ ap (λ (list : List ℕ). Some (take count list)) (sym c.as_slice.ensures.value))
    ∙ ap Some (sym c.in_ok-seat-in-Some.ensures.now)

pub returns-in_err-seat-in-Some-clause-memory : goal.returns-in_err-seat-in-Some-clause-memory
returns-in_err-seat-in-Some-clause-memory c =
    let h = c.args.state.now in
    let count = c.in-Some.count in
    let is = enrolled_some h.problem h.present c.args.student (take count c.as_slice.result.now)
    (sym c.in-Some.ensures.found ∙ ap (λ (list : List ℕ). Some (take count list)) (sym c.as_slice.ensures.value)) in
    on_err c.from_residual.result (rw is refl)
