-- Theorem. The courses of a generated problem. They have its classes in the order of their ids.
use Rattle.std.specs.Prelude.{ℕ, ◌+◌, ◌-◌, ◌*◌, ◌/◌, ◌%◌, ◌==◌, List, [], ◌∷◌, Some, None, nat_le, if◌then◌else◌, codes}
use Rattle.serde_json.specs.Data.{Data, object, member, no_members}
use Rattle.tt_make.specs.Draws.{Draws, ◌>>=◌, give, draw_each}
use Rattle.tt_make.specs.Values.{num, list}
use Rattle.tt_make.specs.Classes.{class}

-- a course has four classes, and the last one those that are left
abbrev pub course_count : ℕ → ℕ
course_count classes = if classes % 4 == 0 then classes / 4 else classes / 4 + 1

-- a subpart with these classes
unfoldable pub subpart_data : ℕ → List Data → Data
subpart_data id classes = object (member (codes "classes") (list classes) (member (codes "id") (num id) no_members))

-- a configuration with these subparts
unfoldable pub config_data : ℕ → Data → Data
config_data id subparts = object (member (codes "id") (num id) (member (codes "subparts") subparts no_members))

-- a course with one configuration, of the same id
unfoldable pub course_data : ℕ → Data → Data
course_data id subparts = object (member (codes "configs") (list (config_data id subparts ∷ [])) (member (codes "id") (num id) no_members))

-- a course with two subparts
unfoldable pub whole_data : ℕ → List Data → List Data → Data
whole_data k parents children = course_data k (list (subpart_data (2 * k - 1) parents ∷ subpart_data (2 * k) children ∷ []))

-- two classes, and two whose parents they are
unfoldable pub whole_course : ℕ → ℕ → Draws Data
whole_course rooms k = do
  parents ← draw_each (4 * k - 3) 2 (λ id. class rooms None id)
  children ← draw_each (4 * k - 1) 2 (λ id. class rooms (Some (id - 2)) id)
  give (whole_data k parents children)

-- so many classes, one to three, without parents
unfoldable pub last_course : ℕ → ℕ → ℕ → Draws Data
last_course rooms count k = do
  left ← draw_each (4 * k - 3) count (λ id. class rooms None id)
  give (course_data k (list (subpart_data (2 * k - 1) left ∷ [])))

-- the course with this id, of a problem with so many rooms and classes
unfoldable pub course : ℕ → ℕ → ℕ → Draws Data
course rooms classes k = if nat_le (4 * k) classes then whole_course rooms k else last_course rooms (classes % 4) k
