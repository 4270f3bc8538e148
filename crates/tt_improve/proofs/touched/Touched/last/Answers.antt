use Rattle.std.proofs.Common.{◌≡◌, ℕ, ap, ◌∙◌, subst, arith}
use Rattle.std.specs.Prelude.{max, slice_index}
use Rattle.tt_problem.specs.Valid.{IsValid}
use Rattle.tt_improve.specs.Standing.{IsSeatedIn, IsTargetOf}
use Rattle.tt_improve.proofs.StudentLemmas.{within_courses}
use Rattle.tt_improve.proofs.TouchedLemmas.{read_is}
use Rattle.tt_improve.proofs.touched.Touched.last.Goals as goal

pub index-requires-in-Course-2 : goal.index-requires-in-Course-2
index-requires-in-Course-2 c =
    let h = c.args.state.now in
    let seated : IsSeatedIn h.problem h.present c.in-Course.student c.in-Course.course = subst (IsTargetOf h.problem h.present) c.in-Course.is c.requires.target in
    let within = within_courses h.problem h.present c.in-Course.student c.in-Course.course (subst IsValid c.problem.ensures c.validity.ensures) c.soundness.ensures.present seated in
    omega (arith, within, c.requires.whole.courses, c.args.self.now.courses.ok.0)

pub returns-in-Course : goal.returns-in-Course
returns-in-Course c =
    let h = c.args.state.now in
    let o = c.args.self.now in
    let seated : IsSeatedIn h.problem h.present c.in-Course.student c.in-Course.course = subst (IsTargetOf h.problem h.present) c.in-Course.is c.requires.target in
    let within = within_courses h.problem h.present c.in-Course.student c.in-Course.course (subst IsValid c.problem.ensures c.validity.ensures) c.soundness.ensures.present seated in
    let one : c.index-in-Course.result.now ≡ slice_index o.students.items c.in-Course.student = read_is o.students.items c.in-Course.student c.index-in-Course.result.now (omega (arith, seated.within, c.requires.whole.students)) c.index-in-Course.ensures in
    let two : c.index-in-Course-2.result.now ≡ slice_index o.courses.items c.in-Course.course = read_is o.courses.items c.in-Course.course c.index-in-Course-2.result.now (omega (arith, within, c.requires.whole.courses)) c.index-in-Course-2.ensures in
    rw c.in-Course.is (c.max-in-Course.ensures ∙ ap (λ (n : ℕ). max n c.index-in-Course-2.result.now) one ∙ ap (λ (n : ℕ). max (slice_index o.students.items c.in-Course.student) n) two)
