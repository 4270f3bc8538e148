use Rattle.std.proofs.Common.{◌∙◌, ℕ, Bool, cond, ap, sym, arith}
use Rattle.tt_state.specs.Snapshots.{is_open_in}
use Rattle.tt_state.proofs.ClosureLemmas.{counted_at}
use Rattle.tt_state.proofs.closures.open_count.Goals.{then-is_open_in, else-is_open_in}
use Rattle.tt_state.proofs.closures.open_count.Goals as goal

pub loop-at-preserved : goal.loop-at-preserved
loop-at-preserved c =
    let more = counted_at (is_open_in c.args.room) c.args.closures.now c.loop-at.at c.at.result c.at.ensures in
    elim c.if-is_open_in.branch [
      | then-is_open_in w ↦
          let one = ap {B = ℕ} (λ (b : Bool). cond b 1 0) (sym c.is_open_in.ensures ∙ w.if-is_open_in.true) in
          record { count = omega (arith, w.count-is, more, one, c.loop-at.invariant.count); few = omega (arith, w.count-is, c.loop-at.invariant.few) }
      | else-is_open_in w ↦
          let none = ap {B = ℕ} (λ (b : Bool). cond b 1 0) (sym c.is_open_in.ensures ∙ w.if-is_open_in.false) in
          record { count = omega (arith, w.count-is, more, none, c.loop-at.invariant.count); few = omega (arith, w.count-is, c.loop-at.invariant.few) }
    ]
