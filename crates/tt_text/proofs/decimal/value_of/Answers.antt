use Rattle.std.proofs.Common.{arith}
use Rattle.tt_text.proofs.Digits.{is_short, one_more}
use Rattle.tt_text.proofs.decimal.value_of.Goals as goal

pub overflow_mul-value : goal.overflow_mul-value
overflow_mul-value c = omega (arith, is_short c.args.digits.now c.loop-c.c-index c.requires.digits c.requires.short)

pub overflow_add-value : goal.overflow_add-value
overflow_add-value c = omega (arith, is_short c.args.digits.now c.loop-c.c-index c.requires.digits c.requires.short)

pub loop-c-preserved : goal.loop-c-preserved
loop-c-preserved c = omega (arith, one_more c.args.digits.now c.loop-c.c-index c.requires.digits c.loop-c-test.true)
