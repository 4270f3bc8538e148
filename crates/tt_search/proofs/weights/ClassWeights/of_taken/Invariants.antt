use Rattle.std.proofs.Common.{◌≡◌, ◌≤◌, ◌*◌, ◌^◌, take}
use Rattle.std.specs.List.{sum_by}
use Rattle.tt_search.specs.PlacingNow.{weight_by}
use Rattle.tt_search.proofs.weights.ClassWeights.of_taken.Given as goal

abbrev pub invariant-loop-class : goal.invariant-loop-class
invariant-loop-class l = record {
  weight : l.weight ≡ sum_by (weight_by l.self.outs.items) (take l.class-index l.state.taken);
  small : l.weight ≤ l.class-index * 2 ^ 64;
}
