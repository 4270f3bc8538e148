use Rattle.std.proofs.Common.{◌<◌, IfSome}
use Rattle.tt_least.proofs.gather.next_seed.Given as goal

abbrev pub invariant-loop-place : goal.invariant-loop-place
invariant-loop-place l = IfSome l.best (λ place. place < l.table.count)
