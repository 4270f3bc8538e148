use Rattle.tt_flags.specs.Places.{is_set}
use Rattle.tt_flags.proofs.CountLemmas.{next_set, next_clear}
use Rattle.tt_flags.proofs.nth_from.Goals as goal
use Rattle.tt_flags.proofs.nth_from.Goals.{then-flags-number+else-left-eq0, else-flags-number}

pub loop-number-preserved : goal.loop-number-preserved
loop-number-preserved c =
    elim c.if-flags-number.branch [
      | then-flags-number+else-left-eq0 w ↦
          rw w.left-is (next_set (is_set c.args.flags.now) _ _ _ _ c.loop-number-test.true w.if-flags-number.true w.if-left-eq0.false c.loop-number.invariant)
      | else-flags-number w ↦
          rw w.left-is (next_clear (is_set c.args.flags.now) _ _ _ _ c.loop-number-test.true w.if-flags-number.false c.loop-number.invariant)
    ]
