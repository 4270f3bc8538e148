use Rattle.std.proofs.Common.{◌≡◌}
use Rattle.tt_pool.specs.Chains.{after}
use Rattle.tt_pool.proofs.chain.node_after.Given as goal

abbrev pub invariant-loop-step : goal.invariant-loop-step
invariant-loop-step l = l.node.0 ≡ after l.nodes l.step l.fn.first.0
