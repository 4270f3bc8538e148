-- Proof. What the code of turns keeps of the present snapshot.
use Rattle.std.specs.Prelude.{◌≡◌, [], Option}
use Rattle.tt_problem.specs.declared.parts.Parts.{Parts}
use Rattle.tt_published.specs.Timetable.{Timetable}
use Rattle.tt_state.specs.Snapshots.{Snapshot}
use Rattle.tt_search.specs.declared.way.Way.{Way}
use Rattle.tt_search.specs.Drawing.{AreCandidates}
use Rattle.tt_search.specs.LeastNow.{HasRoomForValues}
use Rattle.tt_search.specs.MovedNow.{AreMoved}
use Rattle.tt_search.specs.Numbers.{rank_numbers}
use Rattle.tt_search.specs.Searched.{rank_of}

-- it is known which classes are candidates, and which are moved, and there is room for the values of each
pub record IsWayAt (p : Parts) (aim : Option Timetable) (s : Snapshot) (w : Way) : Type 0 where
  pub candidates : AreCandidates p s w.candidates []
  pub moved : AreMoved p aim s.plan w.moved []
  pub room : HasRoomForValues p w.least

-- the same at the first moment of a way, which is the best so far
pub record BeginsAt (p : Parts) (aim : Option Timetable) (s : Snapshot) (w : Way) : Type 0 where
  pub at : IsWayAt p aim s w
  pub ranked : rank_numbers w.best.rank ≡ rank_of p aim s
  pub first : w.best.place ≡ 0
