use Rattle.std.proofs.Common.{◌≡◌, Bool, Some, None, cond, ap, ◌∙◌, sym, subst}
use Rattle.tt_problem.specs.declared.parts.Parts.{Parts}
use Rattle.tt_problem.specs.Valid.{IsValid}
use Rattle.tt_improve.specs.Idle.{targets_in}
use Rattle.tt_improve.specs.Rounds.{changed_by}
use Rattle.tt_improve.specs.Standing.{IsTargetOf}
use Rattle.tt_improve.specs.Touched.{IsNoted}
use Rattle.tt_improve.proofs.TargetLemmas.{drawn-of}
use Rattle.tt_improve.proofs.TouchedLemmas.{idle_changed}
use Rattle.tt_improve.proofs.improving.make_round_at.Goals as goal

pub last-requires-clause-target : goal.last-requires-clause-target
last-requires-clause-target c =
    let h = c.args.state.now in
    drawn-of h.problem h.present (targets_in c.args.descent.now.targets) c.args.place c.at-target.result.target (sym c.requires.targets) c.at-target.ensures.target

pub make_round-requires-clause-target : goal.make_round-requires-clause-target
make_round-requires-clause-target c =
    let h = c.args.state.now in
    drawn-of h.problem h.present (targets_in c.args.descent.now.targets) c.args.place c.at-target.result.target (sym c.requires.targets) c.at-target.ensures.target

pub note-requires-2-clause-target : goal.note-requires-2-clause-target
note-requires-2-clause-target c =
    let h = c.args.state.now in
    let after = c.make_round.new.state in
    subst (λ (p : Parts). IsTargetOf p after.present c.at-target.result.target) (sym c.in_ok-changes.ensures.step.problem)
    (drawn-of h.problem after.present (targets_in c.args.descent.now.targets) c.args.place c.at-target.result.target (c.in_ok-changes.ensures.no_worse.targets ∙ sym c.requires.targets) c.at-target.ensures.target)

pub returns-clause-idle : goal.returns-clause-idle
returns-clause-idle c =
    let h = c.args.state.now in
    let after = c.make_round.new.state in
    let target = c.at-target.result.target in
    let noted = subst (λ (p : Parts). IsNoted p after.present c.args.descent.now.touched c.note-2.new.self target c.args.stage) c.in_ok-changes.ensures.step.problem c.note-2.ensures.noted in
    let changes : changed_by h.problem h.present target ≡ Some after.present = c.in_ok-changes.ensures.changes ∙ ap (λ (b : Bool). cond b (Some after.present) None) c.if-not-changes.false in
    idle_changed h.problem h.present after.present c.args.descent.now.targets c.note.new.self c.args.descent.now.touched c.args.place c.args.stage target c.requires.place c.at-target.ensures.target c.note.ensures.targets c.note.ensures.stages c.requires.idle
    c.note-2.new.self (subst IsValid c.problem.ensures c.validity.ensures) c.soundness.ensures.present c.requires.targets noted changes
