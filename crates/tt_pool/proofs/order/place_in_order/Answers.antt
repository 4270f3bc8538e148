use Rattle.std.proofs.Common.{sym, arith}
use Rattle.std.specs.Prelude.{nat_lt}
use Rattle.std.proofs.lemmas.Bool.{lt-ltb}
use Rattle.std.proofs.lemmas.List.Sums.{position_or_len_is}
use Rattle.tt_pool.proofs.order.place_in_order.Goals as goal

pub returns-then-item-listed-clause-place : goal.returns-then-item-listed-clause-place
returns-then-item-listed-clause-place c =
    sym (position_or_len_is (nat_lt c.args.item) c.args.listed.now c.loop-at.at 0 (omega arith) c.loop-at.invariant (λ within. lt-ltb c.args.item _ c.if-item-listed.true))

pub returns-clause-place : goal.returns-clause-place
returns-clause-place c =
    sym (position_or_len_is (nat_lt c.args.item) c.args.listed.now _ 0 (omega arith) (λ k lt. c.loop-at.invariant k (omega arith)) (λ within. absurd (omega arith)))
