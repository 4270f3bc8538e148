use Rattle.std.proofs.Common.{arith}
use Rattle.tt_cbs.proofs.KeyLemmas.{bump_shown, put_positive, bump_back}
use Rattle.tt_cbs.proofs.Cbs.bump.Goals as goal

pub returns-clause-ok : goal.returns-clause-ok
returns-clause-ok c = bump_shown _ _ _ _ _ c.self.view_is c.count-count.ensures c.in_ok-insert.ensures.updates.0

pub returns-clause-back : goal.returns-clause-back
returns-clause-back c = bump_back _ _ _ _ c.self.view_is c.self.invariant (bump_shown _ _ _ _ _ c.self.view_is c.count-count.ensures c.in_ok-insert.ensures.updates.0)

pub invariant_of-self-2 : goal.invariant_of-self-2
invariant_of-self-2 c = put_positive _ _ _ _ c.self.invariant (omega arith) c.in_ok-insert.ensures.updates.0
