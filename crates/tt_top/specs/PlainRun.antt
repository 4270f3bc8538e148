-- Theorem. What a plain run does, by what its files hold.
use Rattle.std.specs.Prelude.{ℕ, nat_lt, ◌==◌, List, [], ◌∷◌, ◌++◌, length, if◌then◌else◌, None, Some, Option, Result, Ok, Err, ok_or, codes}
use Rattle.std.specs.List.{concat}
use Rattle.tt_problem.specs.declared.parts.Parts.{Parts}
use Rattle.tt_read.specs.Tables.{problem_of}
use Rattle.tt_published.specs.Timetable.{Timetable}
use Rattle.tt_solution.specs.Tables.{published_of}
use Rattle.tt_make.specs.Text.{make_text}
use Rattle.tt_text.specs.Fields.{field}
use Rattle.tt_base.specs.Chain.{◌>>=◌}
use Rattle.tt_script.specs.Script.{lines_of}
use Rattle.tt_desk.specs.Desk.{Session, opening_session}
use Rattle.tt_desk.specs.Replies.{refuses}
use Rattle.tt_verify.specs.Verified.{verified_text}
use Rattle.tt_verify.specs.Violations.{violations_of}
use Rattle.tt_top.specs.Words.{FileWords, first_words, file_words, usage_line}
use Rattle.tt_top.specs.Opening.{FaultyFile, read_if_any, problem_read, timetable_read, opened, session_pieces}
use Rattle.tt_top.specs.Pieces.{is_long_script, answered_part}

-- what a plain run does: what it writes, piece by piece, the status with which it ends, and the names that it asks for
pub record PlainRun : Type 0 where
  pub pieces : List (List ℕ)
  pub status : ℕ
  pub names : List (List ℕ)

-- the whole text
abbrev pub text_of : PlainRun → List ℕ
text_of r = concat r.pieces

-- ---- phases

-- what a phase of a run gives, or the run itself where it ends there; none where that depends on bytes that aren't told
abbrev pub Phase : Type 0 → Type 0
Phase A = Result A (Option PlainRun)

-- the run ends here
abbrev pub ends : {A : Type 0} → (names pieces : List (List ℕ)) → (status : ℕ) → Phase A
ends names pieces status = Err (Some (record { pieces = pieces; status = status; names = names }))

-- the run, by its last phase
abbrev pub last_phase : Phase PlainRun → Option PlainRun
last_phase (Ok r) = Some r
last_phase (Err ended) = ended

-- the bytes of the file that was asked for last; one above the limit ends the run, with nothing written
abbrev pub bytes_phase : (limit : ℕ) → (names : List (List ℕ)) → Option (List ℕ) → Phase (List ℕ)
bytes_phase limit names None = Err None
bytes_phase limit names (Some bytes) = if nat_lt limit (length bytes) then ends names [] 8 else Ok bytes

-- what was read of it; a fault ends the run, with the line that says so
abbrev pub read_phase : {A : Type 0} → (names : List (List ℕ)) → Result A FaultyFile → Phase A
read_phase names (Ok x) = Ok x
read_phase names (Err faulty) = ends names (faulty.line ∷ []) faulty.status

-- the problem, which is the first file
abbrev pub problem_phase : (limit : ℕ) → (holds : List ℕ → Option (List ℕ)) → (name : List ℕ) → Phase Parts
problem_phase limit holds name = do
  bytes ← bytes_phase limit (name ∷ []) (holds name)
  read_phase (name ∷ []) (problem_read (problem_of bytes))

-- the timetable of a problem in the file that is the last of these names
abbrev pub timetable_phase : (limit : ℕ) → (holds : List ℕ → Option (List ℕ)) → (names : List (List ℕ)) → Parts → (name : List ℕ) → Phase Timetable
timetable_phase limit holds names p name = do
  bytes ← bytes_phase limit names (holds name)
  read_phase names (timetable_read (published_of p bytes))

-- the session that the files before the script open; nothing is published where no such file is named
abbrev pub session_phase : (limit : ℕ) → (holds : List ℕ → Option (List ℕ)) → FileWords → Phase Session
session_phase limit holds words = do
  p ← problem_phase limit holds words.problem
  t ← read_if_any (timetable_phase limit holds (first_words words) p) words.published
  Ok (opening_session p t)

-- the script, which is empty where none is named
abbrev pub script_phase : (holds : List ℕ → Option (List ℕ)) → Option (List ℕ) → Phase (List ℕ)
script_phase holds None = Ok []
script_phase holds (Some name) = ok_or (holds name) None

-- ---- runs

-- the run that answers these lines; the status is 1 where one is refused
abbrev pub answering : (names : List (List ℕ)) → Session → (lines : List (List ℕ)) → PlainRun
answering names s lines = record { pieces = session_pieces s lines; status = if refuses s lines then 1 else 0; names = names }

-- the run that answers a script, as far as it goes within the limit
abbrev pub serving : (limit : ℕ) → (names : List (List ℕ)) → Session → (script : List ℕ) → PlainRun
serving limit names s script = record {
  pieces = session_pieces s (lines_of (answered_part limit script));
  status = if is_long_script limit script then 8 else if refuses s (lines_of script) then 1 else 0;
  names = names;
}

-- the run of these file words
abbrev pub file_run : (limit : ℕ) → (holds : List ℕ → Option (List ℕ)) → FileWords → Option PlainRun
file_run limit holds words = last_phase (do
  s ← session_phase limit holds words
  script ← script_phase holds words.script
  Ok (serving limit (file_words words) s script))

-- the same with these lines in place of the script
abbrev pub lines_run : (limit : ℕ) → (holds : List ℕ → Option (List ℕ)) → FileWords → (lines : List (List ℕ)) → Option PlainRun
lines_run limit holds words lines = last_phase (do
  s ← session_phase limit holds words
  Ok (answering (file_words words) s lines))

-- the run that writes what is found of a solution; the status is 1 where there is a violation
abbrev pub checking : (names : List (List ℕ)) → Parts → Timetable → PlainRun
checking names p t = record { pieces = verified_text p t ∷ []; status = if length (violations_of p t) == 0 then 0 else 1; names = names }

-- the run that checks a solution file
abbrev pub verify_run : (limit : ℕ) → (holds : List ℕ → Option (List ℕ)) → (problem solution : List ℕ) → Option PlainRun
verify_run limit holds problem solution = last_phase (do
  p ← problem_phase limit holds problem
  t ← timetable_phase limit holds (problem ∷ solution ∷ []) p solution
  Ok (checking (problem ∷ solution ∷ []) p t))

-- the script of `demo`
abbrev pub demo_script : (seed turns : ℕ) → List ℕ
demo_script seed turns = field (codes "enrol all\nsearch ") turns ++ field (codes " ") seed ++ codes "\ntotals\nundo\nundo\n"

-- the run that answers these lines in the session that was opened, or writes the line on a fault; it asks for no file
abbrev pub made_run : (lines : List (List ℕ)) → Result Session FaultyFile → PlainRun
made_run lines (Ok s) = answering [] s lines
made_run lines (Err faulty) = record { pieces = faulty.line ∷ []; status = faulty.status; names = [] }

-- the run of `demo`: the generated text is the problem
abbrev pub demo_run : (seed classes turns : ℕ) → PlainRun
demo_run seed classes turns = made_run (lines_of (demo_script seed turns)) (opened (make_text seed classes) None)

-- the run of `make`: the generated text and a line end
abbrev pub make_run : (seed classes : ℕ) → PlainRun
make_run seed classes = record { pieces = (make_text seed classes ++ codes "\n") ∷ []; status = 0; names = [] }

-- the run of words in no form
abbrev pub usage_run : PlainRun
usage_run = record { pieces = usage_line ∷ []; status = 2; names = [] }
