use Rattle.std.proofs.Common.{◌-◌, []}
use Rattle.rand_core.specs.Steps.{stream_of, steps_u32}
use Rattle.rand_core.specs.Stream.{next_u32}
use Rattle.rand_pcg.specs.Pcg.{pcg32}
use Rattle.tt_state.specs.History.{IsWithinStep, trail, with_taken}
use Rattle.tt_search.specs.Searched.{onward, rank_of}
use Rattle.tt_search.specs.UnderWay.{IsUnderWay, search_end, turns_made}
use Rattle.tt_search.specs.Turns.{turn_of}
use Rattle.tt_search.specs.WayNow.{IsWayAt}
use Rattle.tt_search.proofs.seeking.make_turns.Given as goal

abbrev pub invariant-loop-made : goal.invariant-loop-made
invariant-loop-made g l =
    let start = l.fn.state in
    let aim = l.aim in
    record {
      step : IsWithinStep (with_taken start []) (with_taken l.state []);
      at : IsWayAt start.problem aim l.state.present l.way;
      way : IsUnderWay (rank_of start.problem aim) (trail l.state) (onward next_u32 (turn_of start.problem aim) (l.turns - l.made) (stream_of (steps_u32 pcg32) l.random) l.state.present) l.way.best l.made (search_end start.problem aim l.turns l.seed start.present) (turns_made start.problem aim l.turns l.seed start.present);
    }
