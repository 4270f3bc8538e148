use Rattle.std.specs.Prelude.{nat_lt}
use Rattle.tt_pool.specs.Chains.{IsSearched}
use Rattle.tt_pool.proofs.places.place_above.Given as goal

abbrev pub invariant-loop-at : goal.invariant-loop-at
invariant-loop-at l = IsSearched l.nodes l.chain.first.0 l.at l.before.0 l.node.0 (nat_lt l.item)
