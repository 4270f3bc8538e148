use Rattle.std.proofs.Common.{None, []}
use Rattle.rand_core.specs.Steps.{stream_of, steps_u32}
use Rattle.rand_pcg.specs.Pcg.{pcg32}
use Rattle.tt_state.specs.History.{IsWithinStep, trail, with_taken}
use Rattle.tt_search.specs.WayNow.{IsWayAt}
use Rattle.tt_search.proofs.PlacingLemmas.{IsPlacing}
use Rattle.tt_search.proofs.placing.make_place_turns.Given as goal

abbrev pub invariant-loop-made : goal.invariant-loop-made
invariant-loop-made g l =
    let start = l.fn.state in
    record {
      step : IsWithinStep (with_taken start []) (with_taken l.state []);
      at : IsWayAt start.problem None l.state.present l.way;
      placing : IsPlacing start.problem l.turns l.seed start.present l.made (stream_of (steps_u32 pcg32) l.random) l.state.present (trail l.state) l.weights l.way.best;
    }
