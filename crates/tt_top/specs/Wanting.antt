-- Theorem. What is written where memory is wanting.
use Rattle.std.specs.Prelude.{◌≡◌, ◌⊎◌, ⊤, ℕ, false, List, [], ◌∷◌, ◌++◌, Option, None, Some, Result, Ok, Err}
use Rattle.std.specs.List.{concat}
use Rattle.tt_io.specs.Causes.{Writes}
use Rattle.tt_base.specs.Chain.{◌>>=◌}
use Rattle.tt_script.specs.Script.{lines_of}
use Rattle.tt_desk.specs.Desk.{Session, line_step}
use Rattle.tt_desk.specs.Causes.{IsMemoryCause}
use Rattle.tt_top.specs.Words.{FileWords}
use Rattle.tt_top.specs.Opening.{FaultyFile, session_pieces}
use Rattle.tt_top.specs.Pieces.{has_quit_line, answered_part}
use Rattle.tt_top.specs.PlainRun.{Phase, session_phase, script_phase, made_run}

-- the session after these lines
abbrev pub session_after : Session → (lines : List (List ℕ)) → Session
session_after s [] = s
session_after s (line ∷ lines) = session_after (line_step s line).session lines

-- The lines that were answered are the first of these, none of them is `quit`, and the command of the next one wants memory.
pub record WantsAfter (s : Session) (lines answered : List (List ℕ)) : Type 0 where
  pub next : List ℕ
  pub later : List (List ℕ)
  pub parts : lines ≡ answered ++ next ∷ later
  pub goes_on : has_quit_line answered ≡ false
  pub cause : IsMemoryCause (session_after s answered) next

-- the session that the files open, and the lines of the script that are answered
abbrev pub served_phase : (limit : ℕ) → (holds : List ℕ → Option (List ℕ)) → FileWords → Phase (Session × List (List ℕ))
served_phase limit holds words = do
  s ← session_phase limit holds words
  script ← script_phase holds words.script
  Ok (s, lines_of (answered_part limit script))

-- the session that was opened, and the lines that are answered, where no file is asked for
abbrev pub made_phase : (lines : List (List ℕ)) → Result Session FaultyFile → Phase (Session × List (List ℕ))
made_phase lines (Ok s) = Ok (s, lines)
made_phase lines (Err faulty) = Err (Some (made_run lines (Err faulty)))

-- What was written where memory is wanting: nothing, or the first line and the replies to the lines before one whose command wants
-- memory. Where a file ends the run it is nothing.
abbrev pub IsWanting : Phase (Session × List (List ℕ)) → (before now : Option (List ℕ)) → Type 0
IsWanting (Ok (s, lines)) before now = Writes before now [] ⊎ ((answered : List (List ℕ)) × WantsAfter s lines answered × Writes before now (concat (session_pieces s answered)))
IsWanting (Err (Some r)) before now = Writes before now []
IsWanting (Err None) before now = ⊤
