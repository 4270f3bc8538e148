-- Theorem. A generated problem, and its text.
use Rattle.std.specs.Prelude.{ℕ, ◌+◌, ◌*◌, ◌/◌, List, codes}
use Rattle.serde_json.specs.Data.{Data, string, object, member, no_members}
use Rattle.serde_json.specs.Written.{compact_text}
use Rattle.tt_draw.specs.Draws.{seeded}
use Rattle.tt_make.specs.Draws.{Draws, ◌>>=◌, give, draw_each}
use Rattle.tt_make.specs.Values.{num, list}
use Rattle.tt_make.specs.Rooms.{room}
use Rattle.tt_make.specs.Courses.{course, course_count}
use Rattle.tt_make.specs.Rules.{rule}
use Rattle.tt_make.specs.Students.{student}

-- a problem of seven days and thirteen weeks, from its parts
unfoldable pub problem_data : List Data → List Data → List Data → List Data → Data
problem_data rooms courses rules students =
    let weights = object (member (codes "distribution") (num 1) (member (codes "room") (num 1) (member (codes "student") (num 2) (member (codes "time") (num 2) no_members)))) in
    object (member (codes "courses") (list courses) (member (codes "distributions") (list rules) (member (codes "name") (string (codes "generated"))
    (member (codes "nrDays") (num 7) (member (codes "nrWeeks") (num 13) (member (codes "optimization") weights (member (codes "rooms") (list rooms)
    (member (codes "slotsPerDay") (num 288) (member (codes "students") (list students) no_members)))))))))

-- the number of rooms of a problem with so many classes
abbrev pub room_count : ℕ → ℕ
room_count classes = classes / 10 + 2

-- a problem with so many classes: first all rooms are drawn, then the courses with their classes, then the distributions, then the students
unfoldable pub problem : ℕ → Draws Data
problem classes = do
  rooms ← draw_each 1 (room_count classes) room
  courses ← draw_each 1 (course_count classes) (course (room_count classes) classes)
  rules ← draw_each 0 (2 * (classes / 4)) rule
  students ← draw_each 1 (15 * classes / 4) (student (course_count classes))
  give (problem_data rooms courses rules students)

-- the text of the problem that a seed gives, as serde_json writes it
unfoldable pub make_text : ℕ → ℕ → List ℕ
make_text seed classes = compact_text (problem classes (seeded seed)).0
