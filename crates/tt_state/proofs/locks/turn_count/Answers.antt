use Rattle.std.proofs.Common.{◌∙◌, ◌<◌, List, ℕ, length, ap, sym, arith}
use Rattle.tt_state.specs.Kept.{snapshot_of}
use Rattle.tt_state.specs.Turned.{may_turn}
use Rattle.tt_state.proofs.LockLemmas.{passing_less, passing_more}
use Rattle.tt_state.proofs.locks.turn_count.Goals.{then-may_turn, else-may_turn}
use Rattle.tt_state.proofs.locks.turn_count.Goals as goal

pub loop-class-preserved : goal.loop-class-preserved
loop-class-preserved c =
    let lock = c.args.lock in
    let s = snapshot_of c.args.present.now in
    let n = length s.plan in
    let i = c.loop-class.class in
    let lt : i < n = omega (arith, c.class_count-class-end.ensures.count, c.requires) in
    elim c.if-may_turn.branch [
      | then-may_turn w ↦
          let more = ap (λ (x : List ℕ). length x) (passing_more (may_turn lock s) i n lt (sym c.may_turn.ensures ∙ w.if-may_turn.true)) in
          record { count = omega (arith, w.count-is, more, c.loop-class.invariant.count); few = omega (arith, w.count-is, c.loop-class.invariant.few) }
      | else-may_turn w ↦
          let less = ap (λ (x : List ℕ). length x) (passing_less (may_turn lock s) i n lt (sym c.may_turn.ensures ∙ w.if-may_turn.false)) in
          record { count = omega (arith, w.count-is, less, c.loop-class.invariant.count); few = omega (arith, w.count-is, c.loop-class.invariant.few) }
    ]
