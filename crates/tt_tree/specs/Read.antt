-- Contract. What the code has read so far.
use Rattle.std.specs.Prelude.{◌≡◌, ℕ, ◌≤◌, List, length, map, All, IfSome, nat_eq}
use Rattle.tt_base.specs.Limits.{most_classes, most_penalty, most_rooms}
use Rattle.std.specs.List.{IsDistinct}
use Rattle.tt_tree.specs.declared.context as context
use Rattle.tt_tree.specs.declared.rooms as rooms
use Rattle.tt_tree.specs.declared.courses as courses
use Rattle.tt_travel.specs.Table.{Table, IsTravel}
use Rattle.tt_problem.specs.declared.parts.RoomChoice.{RoomChoice}
use Rattle.tt_problem.specs.declared.parts.ClassPart.{ClassPart}
use Rattle.tt_problem.specs.Spans.{Covers}
use Rattle.tt_problem.specs.Valid.{IsValidTime, IsValidRoom, room_ids, class_ids, course_ids}
use Rattle.tt_fields.specs.declared.references.Known.{Known}
use Rattle.tt_fields.specs.List.{IsAmong}
use Rattle.tt_tree.specs.Context.{HasIds}
use Rattle.tt_tree.specs.Tables.{Rooms, Subparts, Configs, Courses}

-- the rooms that the code has read
abbrev pub rooms_read : rooms.Rooms.Rooms → Rooms
rooms_read s = record { rooms = s.rooms.items; travel = s.travel }

-- the classes that the code has read
abbrev pub classes_read : courses.Classes.Classes → List ClassPart
classes_read s = s.classes.items

-- the subparts that the code has read
abbrev pub subparts_read : courses.Subparts.Subparts → Subparts
subparts_read s = record { spans = s.spans.items; classes = classes_read s.classes }

-- the configurations that the code has read
abbrev pub configs_read : courses.Configs.Configs → Configs
configs_read s = record { spans = s.spans.items; subparts = subparts_read s.subparts }

-- the courses that the code has read
abbrev pub courses_read : courses.Courses.Courses → Courses
courses_read t = record { courses = t.courses.items; configs = configs_read t.configs }

-- a table of travel between so many rooms, which are no fewer than the ids among which rooms are looked up
pub record IsTravelAmong (c : context.Context.Context) (count : ℕ) (t : Table) : Type 0 where
  pub sound : IsTravel t
  pub rooms : t.rooms ≡ count
  pub few : count ≤ most_rooms
  pub known : HasIds c.rooms count

-- the rooms are valid and have these ids, which differ, and there is the travel between `count` rooms
pub record IsRooms (c : context.Context.Context) (count : ℕ) (s : rooms.Rooms.Rooms) : Type 0 where
  pub travel : IsTravelAmong c count s.travel
  pub ids : s.ids.keys ≡ room_ids s.rooms.items
  pub distinct : IsDistinct nat_eq s.ids.keys
  pub valid : All (IsValidRoom c.nr_days c.nr_weeks) s.rooms.items

-- the room is one of those that are known, and its penalty is at most 1,000,000
pub record IsChoiceAmong (rooms : Known) (r : RoomChoice) : Type 0 where
  pub room : IsAmong rooms r.room
  pub penalty : r.penalty ≤ most_penalty

-- the class has 1 to 1,000 valid times, and what it refers to is known
pub record IsClassAmong (c : context.Context.Context) (p : ClassPart) : Type 0 where
  pub some_time : 1 ≤ length p.times
  pub few_times : length p.times ≤ 1000
  pub times : All (IsValidTime c.nr_days c.nr_weeks) p.times
  pub parent : IfSome p.parent (λ place. IsAmong c.classes place)
  pub few_rooms : length p.rooms ≤ 1000
  pub rooms : All (IsChoiceAmong c.rooms) p.rooms

-- the classes are valid among what is known and have these ids, which differ
pub record AreClasses (c : context.Context.Context) (s : courses.Classes.Classes) : Type 0 where
  pub each : All (IsClassAmong c) s.classes.items
  pub ids : s.ids.keys ≡ class_ids s.classes.items
  pub distinct : IsDistinct nat_eq s.ids.keys

-- there are at most 20,000 classes and as many subparts, and the subparts cover the classes
pub record IsSubparts (c : context.Context.Context) (s : courses.Subparts.Subparts) : Type 0 where
  pub classes : AreClasses c s.classes
  pub few_classes : length s.classes.classes.items ≤ most_classes
  pub few : length s.spans.items ≤ most_classes
  pub spans : Covers s.spans.items (length s.classes.classes.items)

-- there are at most 20,000 configurations, and they cover the subparts
pub record IsConfigs (c : context.Context.Context) (s : courses.Configs.Configs) : Type 0 where
  pub subparts : IsSubparts c s.subparts
  pub few : length s.spans.items ≤ most_classes
  pub spans : Covers s.spans.items (length s.subparts.spans.items)

-- the courses cover the configurations, and have these ids, which differ
pub record IsCourses (c : context.Context.Context) (t : courses.Courses.Courses) : Type 0 where
  pub configs : IsConfigs c t.configs
  pub courses : Covers (map (λ c. c.configs) t.courses.items) (length t.configs.spans.items)
  pub ids : t.ids.keys ≡ course_ids t.courses.items
  pub distinct : IsDistinct nat_eq t.ids.keys
