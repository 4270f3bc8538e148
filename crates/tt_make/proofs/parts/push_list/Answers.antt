use Rattle.tt_make.proofs.Texts.{writes_none, writes_more, writes_all}
use Rattle.tt_make.proofs.parts.push_list.Goals as goal

pub loop-i-init : goal.loop-i-init
loop-i-init g c = writes_none _ _ _ _ _ _ c.in_ok-push.ensures.items

pub loop-i-preserved : goal.loop-i-preserved
loop-i-preserved g c = writes_more _ _ _ c.loop-i.invariant c.loop-i-test.true c.in_ok-push_comma_if.ensures c.in_ok-push-2.ensures.text c.in_ok-push-2.ensures.random

pub returns-clause-text : goal.returns-clause-text
returns-clause-text g c = (writes_all _ c.loop-i.invariant c.loop-i-test.false c.in_ok-push-3.ensures.items).0

pub returns-clause-random : goal.returns-clause-random
returns-clause-random g c = (writes_all _ c.loop-i.invariant c.loop-i-test.false c.in_ok-push-3.ensures.items).1
