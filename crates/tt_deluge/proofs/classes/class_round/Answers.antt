use Rattle.std.proofs.Common.{◌≡◌, Bool, Some, None, [], cond, ap, ◌∙◌}
use Rattle.std.proofs.lemmas.Result.{IfOk-weaker}
use Rattle.tt_state.specs.History.{with_taken}
use Rattle.tt_deluge.specs.ClassRounds.{class_change, moved_to_value}
use Rattle.tt_deluge.specs.Standing.{IsClassRound}
use Rattle.tt_deluge.specs.Pieces.{moved_to_next, made_within}
use Rattle.tt_deluge.proofs.RoundLemmas.{change-next, change-value}
use Rattle.tt_deluge.proofs.classes.class_round.Goals as goal

pub returns-then-kind-lt2-clause-made : goal.returns-then-kind-lt2-clause-made
returns-then-kind-lt2-clause-made c =
    let h = c.args.state.now in
    let change = change-next h.problem h.present c.args.kind c.args.class c.args.place c.if-kind-lt2.true in
    IfOk-weaker c.move_to_next.result
    (IsClassRound c.args.level (moved_to_next h.problem h.present c.args.class c.args.place) (with_taken h []) (with_taken c.move_to_next.new.state []))
    (λ (made : Bool). made_within h.problem c.args.level (class_change h.problem h.present c.args.kind c.args.class c.args.place) ≡ cond made (Some c.move_to_next.new.state.present) None)
    (λ made done. ap (made_within h.problem c.args.level) change ∙ done.round.change) c.move_to_next.ensures.round

pub returns-else-kind-lt2-clause-made : goal.returns-else-kind-lt2-clause-made
returns-else-kind-lt2-clause-made c =
    let h = c.args.state.now in
    let at = rw c.problem.ensures at c.value_at-value.ensures.value in
    let change = change-value h.problem h.present c.args.kind c.args.class c.args.place c.value_at-value.result c.if-kind-lt2.false at in
    IfOk-weaker c.move_to_value.result
    (IsClassRound c.args.level (moved_to_value h.problem h.present c.args.class c.value_at-value.result) (with_taken h []) (with_taken c.move_to_value.new.state []))
    (λ (made : Bool). made_within h.problem c.args.level (class_change h.problem h.present c.args.kind c.args.class c.args.place) ≡ cond made (Some c.move_to_value.new.state.present) None)
    (λ made done. ap (made_within h.problem c.args.level) change ∙ done.round.change) c.move_to_value.ensures.round
