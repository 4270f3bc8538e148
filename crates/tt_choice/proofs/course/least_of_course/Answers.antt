use Rattle.std.proofs.Common.{◌≡◌, ◌≤◌, ℕ, length, ap, sym, ◌∙◌, subst}
use Rattle.std.specs.Prelude.{IfSome, slice_get}
use Rattle.tt_problem.specs.declared.parts.Parts.{Parts}
use Rattle.tt_choice.specs.Pieces.{choices_of_course}
use Rattle.tt_choice.specs.Least.{Situation, least_choice}
use Rattle.tt_choice.specs.Situations.{situation_of}
use Rattle.tt_choice.specs.Standings.{situation_in}
use Rattle.tt_choice.proofs.LengthLemmas.{found-short}
use Rattle.tt_choice.proofs.TableLemmas.{choices_are}
use Rattle.tt_choice.proofs.course.least_of_course.Goals as goal

pub returns-clause-choice : goal.returns-clause-choice
returns-clause-choice c =
    let h = c.args.state.now in
    let tables : c.parts-parts.result.now ≡ h.problem = c.parts-parts.ensures ∙ c.problem-problem.ensures in
    let part = ap (λ (q : Parts). slice_get q.courses c.args.course) (sym c.problem-problem.ensures) ∙ c.course.ensures.part in
    let choices = choices_are h.problem c.args.course c.course.result.now c.as_slice.result.now c.as_slice-2.result.now part
    (c.as_slice.ensures ∙ ap (λ (q : Parts). q.configs) tables) (c.as_slice-2.ensures ∙ ap (λ (q : Parts). q.subparts) tables) in
    c.least_choice.ensures.choice
    ∙ ap (λ (s : Situation). least_choice s (choices_of_course c.as_slice.result.now c.as_slice-2.result.now c.course.result.now.configs)) c.new-standing.ensures.situation
    ∙ ap (least_choice (situation_of h.problem h.present c.args.student c.args.wanting.now c.args.already.now)) choices

pub returns-clause-few : goal.returns-clause-few
returns-clause-few c =
    let p = c.args.state.now.problem in
    let tables : c.parts-parts.result.now ≡ p = c.parts-parts.ensures ∙ c.problem-problem.ensures in
    let long : length c.as_slice-2.result.now ≡ length p.subparts = ap length (c.as_slice-2.ensures ∙ ap (λ (q : Parts). q.subparts) tables) in
    subst (λ (n : ℕ). IfSome c.least_choice.result (λ count. count ≤ n)) long
    (found-short (situation_in c.new-standing.result) c.as_slice.result.now c.as_slice-2.result.now c.course.result.now.configs c.least_choice.new.buffers.best.items c.least_choice.result c.least_choice.ensures.choice c.least_choice.ensures.within)
