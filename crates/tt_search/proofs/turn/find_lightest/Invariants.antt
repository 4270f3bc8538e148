use Rattle.std.proofs.Common.{◌≡◌, ◌≤◌, length, take}
use Rattle.std.specs.Prelude.{All}
use Rattle.std.specs.List.{filter}
use Rattle.tt_plan.specs.Domain.{domain_of}
use Rattle.tt_search.specs.LeastNow.{AreLightest, HasRoomForValues, IsPlacementOf}
use Rattle.tt_search.specs.Numbers.{prices_of}
use Rattle.tt_search.specs.Turns.{is_available}
use Rattle.tt_search.proofs.turn.find_lightest.Given as goal

abbrev pub invariant-loop-k : goal.invariant-loop-k
invariant-loop-k l =
    let start = l.fn.state in
    record {
      problem : l.state.problem ≡ start.problem;
      present : l.state.present ≡ start.present;
      entries : l.state.entries ≡ start.entries;
      room : HasRoomForValues start.problem l.least;
      few : length l.least.values.items ≤ l.k;
      placements : All (IsPlacementOf start.problem l.class) l.least.values.items;
      lightest : AreLightest (prices_of start.problem l.aim start.present l.class) (filter (is_available start.problem start.present l.class) (take l.k (domain_of start.problem l.class))) l.least;
    }
