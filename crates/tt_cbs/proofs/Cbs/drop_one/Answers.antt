use Rattle.std.proofs.Common.{◌<◌, ◌-◌, arith}
use Rattle.tt_cbs.proofs.KeyLemmas.{last_gone, one_less, kept_is_ok, on_ok, put_positive, drop_positive}
use Rattle.tt_cbs.proofs.Cbs.drop_one.Goals as goal

pub invariant_of-self : goal.invariant_of-self
invariant_of-self c = drop_positive _ _ _ c.self.invariant c.remove.ensures.updates.0

pub returns-then-count-eq1 : goal.returns-then-count-eq1
returns-then-count-eq1 c = last_gone _ _ _ _ _ c.self.view_is c.count-count.ensures c.if-count-eq1.true c.remove.ensures.updates.0

pub unwrap-requires : goal.unwrap-requires
unwrap-requires c = kept_is_ok _ _ _ _ _ c.self.view_is c.insert-kept.ensures.absent c.count-count.ensures (omega (arith, c.requires, c.count-count.ensures))

pub invariant_of-self-else-count-eq1 : goal.invariant_of-self-else-count-eq1
invariant_of-self-else-count-eq1 c =
    let some : 0 < c.count-count.result = omega (arith, c.requires, c.count-count.ensures) in
    let ok = kept_is_ok _ _ _ _ _ c.self.view_is c.insert-kept.ensures.absent c.count-count.ensures some in
    let more : 0 < c.count-count.result - 1 = omega (arith, c.if-count-eq1.false) in
    put_positive _ _ _ _ c.self.invariant more (on_ok _ c.insert-kept.ensures.updates ok).0

pub returns-else-count-eq1 : goal.returns-else-count-eq1
returns-else-count-eq1 c =
    let some : 0 < c.count-count.result = omega (arith, c.requires, c.count-count.ensures) in
    let ok = kept_is_ok _ _ _ _ _ c.self.view_is c.insert-kept.ensures.absent c.count-count.ensures some in
    one_less _ _ _ _ _ c.self.view_is c.count-count.ensures c.if-count-eq1.false (on_ok _ c.insert-kept.ensures.updates ok).0
