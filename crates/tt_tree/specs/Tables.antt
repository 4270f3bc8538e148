-- Theorem. The tables of rooms and courses, one line for each key, in the order in which they are read.
use Rattle.std.specs.Prelude.{ℕ, ◌+◌, ◌-◌, ◌==◌, ◌||◌, List, [], ◌∷◌, ◌++◌, length, Bool, true, false, Result, Ok, codes, nat_lt, if◌then◌else◌}
use Rattle.tt_base.specs.Limits.{most_classes, most_id, most_limit, most_penalty, most_slot}
use Rattle.tt_bits.specs.declared.times.Time.{Time}
use Rattle.tt_bits.specs.Sets.{days_text, weeks_text}
use Rattle.tt_bits.specs.Times as bits
use Rattle.tt_travel.specs.Table.{Table, no_travel, with_travel}
use Rattle.tt_problem.specs.declared.parts.Span.{Span}
use Rattle.tt_problem.specs.declared.parts.TimeChoice.{TimeChoice}
use Rattle.tt_problem.specs.declared.parts.RoomChoice.{RoomChoice}
use Rattle.tt_problem.specs.declared.parts.RoomPart.{RoomPart}
use Rattle.tt_problem.specs.declared.parts.ClassPart.{ClassPart}
use Rattle.tt_problem.specs.declared.parts.CoursePart.{CoursePart}
use Rattle.tt_problem.specs.Valid.{room_ids, class_ids, course_ids}
use Rattle.tt_fields.specs.declared.faults.Wrong.TheVariants.{NoTime}
use Rattle.tt_fields.specs.Path.{at}
use Rattle.tt_base.specs.Chain.{◌>>=◌}
use Rattle.tt_fields.specs.Answer.{Field, Fault, fault}
use Rattle.tt_fields.specs.Kinds.{a_number, a_truth, a_set, an_object, a_list, a_reference, place_of, or_fault, required, or_else, optional, new_id, each, each_as}
use Rattle.tt_tree.specs.Context.{Context}

-- ---- times

-- the length of a time that begins at `start`, which is to be one that a time has
unfoldable pub length_after : ℕ → Field → Result ℕ Fault
length_after start o = do
  length ← required (a_number 0 most_slot) (codes "length") o
  if length == 0 || nat_lt most_slot (start + length) then fault NoTime (at o.path (codes "length")) else Ok length

-- a time object, within the days of a week and the weeks of the term; its length has been read as one that a
-- time has, so that the last line always finds a time
unfoldable pub time_in : Context → Field → Result Time Fault
time_in c o = do
  days ← required (a_set days_text c.nr_days) (codes "days") o
  start ← required (a_number 0 most_slot) (codes "start") o
  length ← length_after start o
  weeks ← required (a_set weeks_text c.nr_weeks) (codes "weeks") o
  or_fault NoTime o (bits.time_of days weeks start length)

-- a time of a class
unfoldable pub a_time_choice : Context → Field → Result TimeChoice Fault
a_time_choice c p = do
  o ← an_object p
  time ← time_in c o
  penalty ← required (a_number 0 most_penalty) (codes "penalty") o
  Ok (record { time = time; penalty = penalty })

-- an unavailable time of a room
unfoldable pub a_closed_time : Context → Field → Result Time Fault
a_closed_time c p = do
  o ← an_object p
  time_in c o

-- ---- rooms

-- an entry in the travel of the room at place `from`: it counts both ways, and the last for a pair of rooms
unfoldable pub a_travel_entry : Context → ℕ → Field → Table → Result Table Fault
a_travel_entry c from p table = do
  o ← an_object p
  to ← required (a_reference c.rooms) (codes "room") o
  slots ← required (a_number 0 most_slot) (codes "value") o
  Ok (with_travel table from to slots)

-- the rooms that have been read, and the travel between all rooms as far as it has been read
pub record Rooms : Type 0 where
  pub rooms : List RoomPart
  pub travel : Table

-- a room, after those that have been read
unfoldable pub a_room : Context → Field → Rooms → Result Rooms Fault
a_room c p s = do
  o ← an_object p
  id ← required (a_number 0 most_id) (codes "id") o
  ids ← new_id id (room_ids s.rooms) o
  entries ← or_else [] (a_list 0 4000) (codes "travel") o
  travel ← each (a_travel_entry c (length s.rooms)) entries s.travel
  unavailable ← or_else [] (a_list 0 1000) (codes "unavailable") o
  closed ← each_as (a_closed_time c) unavailable
  Ok (record { rooms = s.rooms ++ record { id = id; closed = closed } ∷ []; travel = travel })

-- all rooms of a list, and the travel between them
unfoldable pub rooms_in : Context → List Field → Result Rooms Fault
rooms_in c items = each (a_room c) items (record { rooms = []; travel = no_travel (length items) })

-- ---- courses

-- a room of a class
unfoldable pub a_room_choice : Context → Field → Result RoomChoice Fault
a_room_choice c p = do
  o ← an_object p
  room ← required (place_of c.rooms) (codes "id") o
  penalty ← required (a_number 0 most_penalty) (codes "penalty") o
  Ok (record { room = room; penalty = penalty })

-- the rooms of a class that may need one, none for one that needs none
abbrev pub rooms_where : Bool → Context → Field → Result (List RoomChoice) Fault
rooms_where false c o = Ok []
rooms_where true c o = or_else [] (a_list 0 1000) (codes "rooms") o >>= each_as (a_room_choice c)

-- the rooms of a class, which are skipped where its `room` is false
unfoldable pub rooms_of : Context → Field → Result (List RoomChoice) Fault
rooms_of c o = do
  room ← or_else true a_truth (codes "room") o
  rooms_where room c o

-- a class, after those that have been read
unfoldable pub a_class : Context → Field → List ClassPart → Result (List ClassPart) Fault
a_class c p before = do
  o ← an_object p
  id ← required (a_number 0 most_id) (codes "id") o
  ids ← new_id id (class_ids before) o
  limit ← optional (a_number 0 most_limit) (codes "limit") o
  parent ← optional (a_reference c.classes) (codes "parent") o
  rooms ← rooms_of c o
  items ← required (a_list 1 1000) (codes "times") o
  times ← each_as (a_time_choice c) items
  Ok (before ++ record { id = id; limit = limit; parent = parent; times = times; rooms = rooms } ∷ [])

-- the places from `first` up to `after`
abbrev pub span : ℕ → ℕ → Span
span first after = record { first = first; after = after }

-- a list of subparts or configurations has no limit of its own
abbrev pub no_limit : ℕ
no_limit = 18446744073709551615

-- the subparts that have been read, each as the span of its classes
pub record Subparts : Type 0 where
  pub spans : List Span
  pub classes : List ClassPart

-- a subpart, whose classes are at most 20,000 together with those that have been read
unfoldable pub a_subpart : Context → Field → Subparts → Result Subparts Fault
a_subpart c p s = do
  o ← an_object p
  items ← required (a_list 1 (most_classes - length s.classes)) (codes "classes") o
  classes ← each (a_class c) items s.classes
  Ok (record { spans = s.spans ++ span (length s.classes) (length classes) ∷ []; classes = classes })

-- the configurations that have been read, each as the span of its subparts
pub record Configs : Type 0 where
  pub spans : List Span
  pub subparts : Subparts

-- a configuration
unfoldable pub a_config : Context → Field → Configs → Result Configs Fault
a_config c p s = do
  o ← an_object p
  items ← required (a_list 1 no_limit) (codes "subparts") o
  subparts ← each (a_subpart c) items s.subparts
  Ok (record { spans = s.spans ++ span (length s.subparts.spans) (length subparts.spans) ∷ []; subparts = subparts })

-- the courses that have been read with all that is in them
pub record Courses : Type 0 where
  pub courses : List CoursePart
  pub configs : Configs

-- a course, after those that have been read
unfoldable pub a_course : Context → Field → Courses → Result Courses Fault
a_course c p s = do
  o ← an_object p
  id ← required (a_number 0 most_id) (codes "id") o
  ids ← new_id id (course_ids s.courses) o
  items ← required (a_list 1 no_limit) (codes "configs") o
  configs ← each (a_config c) items s.configs
  Ok (record { courses = s.courses ++ record { id = id; configs = span (length s.configs.spans) (length configs.spans) } ∷ []; configs = configs })

-- no course has been read
abbrev pub no_courses : Courses
no_courses = record { courses = []; configs = record { spans = []; subparts = record { spans = []; classes = [] } } }

-- all courses of a list
unfoldable pub courses_in : Context → List Field → Result Courses Fault
courses_in c items = each (a_course c) items no_courses
