use Rattle.std.proofs.Common.{arith}
use Rattle.tt_score.proofs.TableLemmas.{all-new, new-count, new-more}
use Rattle.tt_score.proofs.table.new_table.Goals as goal

pub loop-preserved : goal.loop-preserved
loop-preserved c = record { rows = new-more c.loop.counter c.args.classes c.loop.table.items c.push.new.self.items c.in_ok-new.field-0 c.in_ok-push.ensures.items c.in_ok-new.ensures c.loop.invariant.rows }

pub returns-clause-new : goal.returns-clause-new
returns-clause-new c = all-new c.loop.counter c.args.classes c.loop.table.items c.loop.invariant.rows

pub returns-clause-whole : goal.returns-clause-whole
returns-clause-whole c = λ _ _. omega (arith, new-count c.loop.counter c.args.classes c.loop.table.items c.loop.invariant.rows, c.loop-test.false, c.loop.auto.counter-end)
