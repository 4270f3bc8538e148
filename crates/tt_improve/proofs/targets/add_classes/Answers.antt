use Rattle.std.proofs.Common.{◌≡◌, ◌++◌, ◌<◌, ◌∷◌, [], length, ap, sym, ◌∙◌, arith}
use Rattle.tt_problem.specs.declared.parts.Parts.{Parts}
use Rattle.tt_improve.specs.declared.targets.Target.TheVariants.{Class}
use Rattle.tt_state.specs.Snapshots.{may_lock}
use Rattle.tt_improve.proofs.TargetLemmas.{add_class, skip_class, start_classes}
use Rattle.tt_improve.proofs.targets.add_classes.Goals as goal
use Rattle.tt_improve.proofs.targets.add_classes.Goals.{then-is_movable+in_ok-push, else-is_movable}

pub loop-class-init : goal.loop-class-init
loop-class-init c = start_classes c.args.state.now.problem c.args.state.now.present c.args.targets.now.items

pub loop-class-preserved : goal.loop-class-preserved
loop-class-preserved c =
    let h = c.args.state.now in
    let below : c.loop-class.class < length h.problem.classes = omega (arith, c.class_count-class-end.ensures.count, ap (λ (q : Parts). length q.classes) c.problem.ensures) in
    elim c.if-is_movable.branch [
      | then-is_movable+in_ok-push w ↦
          let items : c.if-is_movable.targets.items ≡ c.loop-class.targets.items ++ Class c.loop-class.class ∷ [] = cc w.in_ok-push.ensures.items in
          rw items (add_class (may_lock h.present) _ _ _ _ below (sym c.is_movable.ensures ∙ w.if-is_movable.true) c.loop-class.invariant)
      | else-is_movable w ↦
          rw w.targets-is (skip_class (may_lock h.present) _ _ _ _ below (sym c.is_movable.ensures ∙ w.if-is_movable.false) c.loop-class.invariant)
    ]
