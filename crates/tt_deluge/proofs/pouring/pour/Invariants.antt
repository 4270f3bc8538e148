use Rattle.std.proofs.Common.{◌≡◌, ◌-◌, ◌≤◌, []}
use Rattle.tt_state.specs.History.{IsWithinStep, trail, with_taken}
use Rattle.tt_deluge.specs.Deluged.{best_moment, moments_after}
use Rattle.tt_deluge.specs.Pouring.{IsMomentOf, IsPouring, moment_of}
use Rattle.tt_deluge.specs.Reading.{random_of}
use Rattle.tt_deluge.specs.Standing.{StandsAs}
use Rattle.tt_deluge.proofs.pouring.pour.Given as goal

abbrev pub invariant-loop-made : goal.invariant-loop-made
invariant-loop-made g l =
    let begun = l.initial.state in
    record {
      step : IsWithinStep (with_taken begun []) (with_taken l.state []);
      targets : l.work.targets ≡ l.initial.work.targets;
      few : l.now.changed ≤ l.made;
      moment : IsMomentOf begun.problem l.state.present (trail l.state) l.now;
      still : l.now.changed ≡ 0 → l.state.present ≡ begun.present;
      stands : StandsAs begun.problem begun.present l.state.present;
      way : IsPouring begun.problem begun.present (trail l.state)
          (moments_after begun.problem l.start.total l.rounds (l.rounds - l.made) (moment_of l.state.present l.made l.now.changed (random_of l.random)))
          l.best (best_moment begun.problem l.rounds l.seed begun.present);
    }
