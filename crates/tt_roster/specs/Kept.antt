-- Contract. What a roster keeps, and what makes it one of a problem.
use Rattle.std.specs.Prelude.{◌≡◌, ℕ, ◌+◌, ◌<◌, ◌≤◌, ◌^◌, length, map, sum, sum_by, All, IfSome, slice_index}
use Rattle.tt_travel.specs.Table.{IsRoomOf}
use Rattle.tt_bits.specs.Spots.{spot_at}
use Rattle.tt_pool.specs.Pools.{list_at, nodes_at}
use Rattle.tt_problem.specs.declared.parts.Parts.{Parts}
use Rattle.tt_problem.specs.ListLengths.{most_classes_of}
use Rattle.tt_roster.specs.declared.roster.Roster.TheInside.{Inside}
use Rattle.tt_roster.specs.Attendees.{AreStudentsOf, AreNodesOf}
use Rattle.tt_roster.specs.Seen.{classes_in, most_in, seen}
use Rattle.tt_roster.specs.Rostered.{Rostered}
use Rattle.tt_roster.specs.Lists.{Ascends, list_of}
use Rattle.tt_roster.specs.Conflicts.{student_conflicts}

abbrev pub rostered : Inside → Rostered
rostered r = seen r.rows.items r.spots.items r.conflicts

-- What holds of the rows and of the lists by class, whatever the problem.
pub record IsIndexed (r : Inside) : Type 0 where
  -- a number of 32 bits counts the classes
  pub few : length r.spots.items < 2 ^ 32
  -- each student's list is in order, and of classes that there are
  pub lists : All (Ascends 0 (length r.spots.items)) (map classes_in r.rows.items)
  -- each class has a list, of the students who have it
  pub long : length r.attendees.lists ≡ length r.spots.items
  pub students : (class : ℕ) → AreStudentsOf (list_at r.attendees class) (map classes_in r.rows.items) class
  -- each row has for each of its classes the node at which the student stands there
  pub nodes_long : length r.attendees.nodes ≡ length r.spots.items
  pub nodes : (class : ℕ) → AreNodesOf (nodes_at r.attendees class) (list_at r.attendees class) r.rows.items class
  -- for each seat that the rows have room for, a seat is taken or spare
  pub spare : r.attendees.spare + sum_by length (map classes_in r.rows.items) ≡ sum (map most_in r.rows.items)

-- All that is kept is of the problem with these parts.
pub record IsRosterOf (p : Parts) (r : Rostered) : Type 0 where
  pub students : length r.seats ≡ length p.students
  pub classes : length r.spots ≡ length p.classes
  pub lists : All (Ascends 0 (length p.classes)) r.seats
  pub rows : r.most ≡ map (most_classes_of p) p.students
  pub room : (student : ℕ) → length (list_of r.seats student) ≤ slice_index r.most student
  pub rooms : (class : ℕ) → IfSome (spot_at r.spots class) (λ x. IsRoomOf p.travel x.room)
  pub counted : r.conflicts ≡ student_conflicts p.travel r.spots r.seats
