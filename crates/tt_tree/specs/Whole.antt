-- Contract. How many classes courses have.
use Rattle.std.specs.Prelude.{◌≡◌, ℕ, List, Ok, length}
use Rattle.tt_fields.specs.Answer.{Field}
use Rattle.tt_tree.specs.Context.{Context}
use Rattle.tt_tree.specs.Tables.{Courses, courses_in}

-- the courses have so many classes, whatever ids are known
pub record HasClasses (items : List Field) (n : ℕ) : Type 0 where
  pub count : (c : Context) (t : Courses) → courses_in c items ≡ Ok t → length t.configs.subparts.classes ≡ n
