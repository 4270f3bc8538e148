-- Theorem. A class that is placed among the others.
use Rattle.std.specs.Prelude.{◌≡◌, ℕ, ◌<◌, List, Option, length}
use Rattle.tt_bits.specs.declared.times.Spot.{Spot}
use Rattle.tt_bits.specs.Spots.{IsBelow}
use Rattle.tt_travel.specs.Table.{IsRoomOf}
use Rattle.tt_measure.specs.Held.{AreRoomsOf}
use Rattle.tt_problem.specs.declared.parts.Parts.{Parts}
use Rattle.tt_clash.specs.declared.placing as code

-- a class of a problem and the spot that it is placed at, among classes that have these spots
pub record Placing : Type 0 where
  pub problem : Parts
  pub spots : List (Option Spot)
  pub class : ℕ
  pub spot : Spot

-- the one that the code is handed
abbrev pub placing_of : code.Placing.Placing → Placing
placing_of s = record { problem = s.problem.now; spots = s.occupancy.now.spots; class = s.class; spot = s.spot }

-- Each class of the problem has one of the spots, and what is placed is of the problem.
pub record IsPlacing (s : Placing) : Type 0 where
  pub class : s.class < length s.problem.classes
  pub whole : length s.spots ≡ length s.problem.classes
  pub room : IsRoomOf s.problem.travel s.spot.room
  pub weeks : IsBelow s.problem.nr_weeks s.spot
  pub rooms : AreRoomsOf s.problem.travel s.spots
