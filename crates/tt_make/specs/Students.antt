-- Theorem. The students of a generated problem.
use Rattle.std.specs.Prelude.{ℕ, ◌+◌, codes}
use Rattle.serde_json.specs.Data.{Data, object, member, no_members}
use Rattle.tt_make.specs.Draws.{Draws, ◌>>=◌, give, draw, draw_each}
use Rattle.tt_make.specs.Values.{num, list}

-- a course that a student wants, one of so many
unfoldable pub request : ℕ → Draws Data
request courses = do
  course ← draw courses
  give (num (1 + course))

-- the student with this id, of a problem with so many courses
unfoldable pub student : ℕ → ℕ → Draws Data
student courses id = do
  wanted ← draw_each 0 4 (λ i. request courses)
  give (object (member (codes "courses") (list wanted) (member (codes "id") (num id) no_members)))
