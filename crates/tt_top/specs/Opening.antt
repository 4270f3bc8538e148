-- Theorem. The session that the files open, and what is written of it.
use Rattle.std.specs.Prelude.{ℕ, List, ◌∷◌, ◌++◌, length, map, None, Some, Option, Result, Ok, Err, codes}
use Rattle.tt_problem.specs.declared.parts.Parts.{Parts}
use Rattle.tt_fields.specs.Answer.{Fault}
use Rattle.tt_fields.specs.Faults.{fault_number}
use Rattle.tt_read.specs.Tables.{problem_of}
use Rattle.tt_published.specs.Timetable.{Timetable}
use Rattle.tt_solution.specs.Tables.{published_of}
use Rattle.tt_text.specs.Fields.{field}
use Rattle.tt_base.specs.Chain.{◌>>=◌}
use Rattle.tt_desk.specs.Desk.{Session, opening_session}
use Rattle.tt_desk.specs.Replies.{reply_of, script_steps}

-- ---- the files before the script

-- a file with a fault: the line that says so, and the status of the run
pub record FaultyFile : Type 0 where
  pub line : List ℕ
  pub status : ℕ

-- the line on a fault of a file
abbrev pub fault_line : List ℕ → Fault → List ℕ
fault_line file f = file ++ field (codes " refused ") (fault_number f.wrong) ++ codes " " ++ f.path ++ codes "\n"

-- what the problem file gives
abbrev pub problem_read : Result Parts Fault → Result Parts FaultyFile
problem_read (Ok p) = Ok p
problem_read (Err f) = Err (record { line = fault_line (codes "problem") f; status = 3 })

-- what a published file gives
abbrev pub timetable_read : Result Timetable Fault → Result Timetable FaultyFile
timetable_read (Ok t) = Ok t
timetable_read (Err f) = Err (record { line = fault_line (codes "published") f; status = 4 })

-- what is read of what is there, if anything is
abbrev pub read_if_any : {A B E : Type 0} → (A → Result B E) → Option A → Result (Option B) E
read_if_any read None = Ok None
read_if_any read (Some x) = read x >>= λ found. Ok (Some found)

-- the session with which the script begins, by what the files hold, or the first file that has a fault; nothing is published
-- where there is no such file
unfoldable pub opened : (problem : List ℕ) → (published : Option (List ℕ)) → Result Session FaultyFile
opened problem published = do
  p ← problem_read (problem_of problem)
  t ← read_if_any (λ bytes. timetable_read (published_of p bytes)) published
  Ok (opening_session p t)

-- ---- what is written

-- the numbers of classes, rooms, distributions and students
abbrev pub opening_line : Parts → List ℕ
opening_line p =
    field (codes "open ") (length p.classes)
    ++ field (codes " ") (length p.rooms)
    ++ field (codes " ") (length p.rules)
    ++ field (codes " ") (length p.students)
    ++ codes "\n"

-- the opening line, which is written before the script is opened, and the replies to these lines
abbrev pub session_pieces : Session → (lines : List (List ℕ)) → List (List ℕ)
session_pieces s lines = opening_line s.desk.problem ∷ map reply_of (script_steps s lines)
