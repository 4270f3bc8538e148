-- Proof. What single phases of a run give.
use Rattle.std.specs.Prelude.{ℕ, Bool, List, [], ◌∷◌, Option, None, Result, Ok, IfSome, if◌then◌else◌, length, ◌≤◌}
use Rattle.tt_problem.specs.declared.parts.Parts.{Parts}
use Rattle.tt_published.specs.Timetable.{Timetable}
use Rattle.tt_solution.specs.Tables.{published_of}
use Rattle.tt_base.specs.Chain.{◌>>=◌}
use Rattle.tt_desk.specs.Desk.{Session, opening_session}
use Rattle.tt_top.specs.Opening.{FaultyFile, read_if_any, timetable_read}
use Rattle.tt_top.specs.PlainRun.{Phase, PlainRun, checking, problem_phase, timetable_phase}

-- what is left of the open file, where one is open and it is told
abbrev pub left_open : Bool → Option (List ℕ) → Option (List ℕ)
left_open is_open left = if is_open then left else None

-- what a published file gives, and nothing is published where there is no such file
abbrev pub published_in : Parts → Option (List ℕ) → Result (Option Timetable) FaultyFile
published_in p published = read_if_any (λ bytes. timetable_read (published_of p bytes)) published

-- the session with which the script begins, by what the published file gives
abbrev pub started : Parts → Result (Option Timetable) FaultyFile → Result Session FaultyFile
started p read = do
  t ← read
  Ok (opening_session p t)

-- the published timetable, if a file is named
abbrev pub published_phase : (limit : ℕ) → (holds : List ℕ → Option (List ℕ)) → (names : List (List ℕ)) → Parts → Option (List ℕ) → Phase (Option Timetable)
published_phase limit holds names p published = read_if_any (timetable_phase limit holds names p) published

-- the session of a problem, with what is published for it
abbrev pub start_phase : (limit : ℕ) → (holds : List ℕ → Option (List ℕ)) → (names : List (List ℕ)) → Parts → Option (List ℕ) → Phase Session
start_phase limit holds names p published = do
  t ← published_phase limit holds names p published
  Ok (opening_session p t)

-- what is found of the solution of a problem
abbrev pub solution_phase : (limit : ℕ) → (holds : List ℕ → Option (List ℕ)) → (names : List (List ℕ)) → Parts → (solution : List ℕ) → Phase PlainRun
solution_phase limit holds names p solution = do
  t ← timetable_phase limit holds names p solution
  Ok (checking names p t)

-- the run that checks a solution file, by its phases
abbrev pub check_phase : (limit : ℕ) → (holds : List ℕ → Option (List ℕ)) → (problem solution : List ℕ) → Phase PlainRun
check_phase limit holds problem solution = do
  p ← problem_phase limit holds problem
  solution_phase limit holds (problem ∷ solution ∷ []) p solution

-- the file has at most so many bytes, where it is told what it holds
abbrev pub HasAtMost : (most : ℕ) → (holds : List ℕ → Option (List ℕ)) → (name : List ℕ) → Type 0
HasAtMost most holds name = IfSome (holds name) (λ all. length all ≤ most)
