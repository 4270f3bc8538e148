-- Proof. How the phases of a run end, and what each of them leaves.
use Rattle.std.specs.Prelude.{◌≡◌, ◌≢◌, ◌≤◌, ◌<◌, ◌⊎◌, ℕ, Bool, true, false, ⊤, IfErr, IfSome, IsOk, IsSome, List, [], ◌∷◌, ◌++◌, length, map, take, codes, None, Some, Option, Result, Ok, Err, if◌then◌else◌}
use Rattle.std.specs.List.{AllByRecursion, concat}
use Rattle.tt_io.specs.Causes.{Writes, one_more, AsksAll}
use Rattle.tt_io.specs.Whole.{WritesFront}
use Rattle.tt_io.specs.Lines.{Reader, has_line_end, leading_line, after_line, to_come, StopsIn}
use Rattle.tt_script.specs.Script.{lines_of}
use Rattle.tt_desk.specs.declared.refusal.Outcome.{Outcome}
use Rattle.tt_desk.specs.declared.refusal.Outcome.TheVariants.{Ended}
use Rattle.tt_desk.specs.Causes.{IsMemoryCause}
use Rattle.tt_desk.specs.Desk.{Session, line_step}
use Rattle.tt_desk.specs.Replies.{is_end, reply_of, script_steps, refuses}
use Rattle.tt_top.specs.declared.end.End.{End}
use Rattle.tt_top.specs.declared.end.End.TheVariants.{Files, Sink, Memory, TooLong}
use Rattle.tt_top.specs.declared.end.Done.{Done}
use Rattle.tt_top.specs.declared.end.Done.TheVariants.{Served, Faulty, Made, Verified, Usage}
use Rattle.tt_top.specs.declared.end.Input.{Input}
use Rattle.tt_top.specs.declared.end.Input.TheVariants.{Problem, Published}
use Rattle.tt_top.specs.declared.end.InputFault.{InputFault}
use Rattle.tt_top.specs.Words.{FileWords, first_words}
use Rattle.tt_top.specs.Opening.{FaultyFile, fault_line, opening_line, opened}
use Rattle.tt_top.specs.Pieces.{whole_lines, has_quit, is_long_script, answered_part, taken_of}
use Rattle.tt_top.specs.Wanting.{WantsAfter}
use Rattle.tt_top.specs.PlainRun.{PlainRun, text_of, Phase, ends, read_phase}
use Rattle.tt_top.specs.Run.{Outside, moment, IsFront, ReadsWithin}
use Rattle.tt_top.specs.Phases.{HasAtMost}

-- a reply for each of these lines
abbrev pub replies_to : Session → List (List ℕ) → List (List ℕ)
replies_to s lines = map reply_of (script_steps s lines)

-- ---- files with a fault

-- the name of a file in the line on its fault
abbrev pub input_name : Input → List ℕ
input_name Problem = codes "problem"
input_name Published = codes "published"

-- the status of a run whose file has a fault
abbrev pub input_status : Input → ℕ
input_status Problem = 3
input_status Published = 4

-- the line and the status of a fault
abbrev pub faulty_file : InputFault → FaultyFile
faulty_file f = record { line = fault_line (input_name f.input) (record { wrong = f.wrong; path = f.path }); status = input_status f.input }

-- what a file gives, or its line and status
abbrev pub seen : {A : Type 0} → Result A InputFault → Result A FaultyFile
seen (Ok x) = Ok x
seen (Err f) = Err (faulty_file f)

-- ---- statuses

abbrev pub end_status : End → ℕ
end_status Files = 5
end_status Sink = 6
end_status Memory = 7
end_status TooLong = 8

abbrev pub done_status : Done → ℕ
done_status (Served refused) = if refused then 1 else 0
done_status (Faulty input) = input_status input
done_status Made = 0
done_status (Verified violations) = if violations then 1 else 0
done_status Usage = 2

-- how a run ended that served a script, by whether a line was refused
abbrev pub done_by : Result Bool End → Result Done End
done_by (Ok refused) = Ok (Served refused)
done_by (Err end) = Err end

-- the status of a run, by how it ended
abbrev pub status_of : Result Done End → ℕ
status_of (Ok done) = done_status done
status_of (Err end) = end_status end

-- ---- the outside

-- the outside of a run, by what files and an output tell before it and after it
abbrev pub outside_of : {F S : Type 0} → (holds : F → List ℕ → Option (List ℕ)) → (asked : F → Option (List (List ℕ))) → (is_open : F → Bool) → (left : F → Option (List ℕ)) → (faults : F → ℕ) → (written : S → Option (List ℕ)) → (failed : S → ℕ) → (files files' : F) → (out out' : S) → Outside
outside_of holds asked is_open left faults written failed files files' out out' = record {
  holds = holds files;
  before = moment (asked files) (is_open files) (left files) (written out) (faults files) (failed out);
  now = moment (asked files') (is_open files') (left files') (written out') (faults files') (failed out');
}

-- ---- causes

-- The count of failed calls is one more where the phase ended by this end, and else as it was.
pub record HasEndCause {T : Type 0} (which : End) (before now : ℕ) (result : Result T End) : Type 0 where
  pub rose : result ≡ Err which → now ≡ one_more before
  pub same : result ≢ Err which → now ≡ before

-- ---- what each phase leaves

-- the line on a fault, or the opening line
abbrev pub first_line : Result Session FaultyFile → List ℕ
first_line (Err faulty) = faulty.line
first_line (Ok s) = opening_line s.desk.problem

-- Where what was written is told after a call, it was told before, and grew by the first of these pieces, each whole.
abbrev pub WritesFirst : Option (List ℕ) → Option (List ℕ) → List (List ℕ) → Type 0
WritesFirst before now pieces = (count : ℕ) × Writes before now (concat (take count pieces))

-- It grew by a front of this text, and not by the whole.
abbrev pub WritesLess : Option (List ℕ) → Option (List ℕ) → List ℕ → Type 0
WritesLess before now text = (front : List ℕ) × (rest : List ℕ) × (text ≡ front ++ rest) × (0 < length rest) × Writes before now front

-- It grew by the replies to the first of these lines, those before one whose command wants memory.
abbrev pub WritesBefore : Option (List ℕ) → Option (List ℕ) → Session → (lines : List (List ℕ)) → Type 0
WritesBefore before now d lines = (answered : List (List ℕ)) × WantsAfter d lines answered × Writes before now (concat (replies_to d answered))

-- The phase of the plain run, where it is told, gives what was read, or ends the run alike with these names asked for.
abbrev pub Agrees : {A : Type 0} → (names : List (List ℕ)) → Phase A → Result (Result A InputFault) End → Type 0
Agrees names phase (Ok l) = phase ≢ Err None → phase ≡ read_phase names (seen l)
Agrees names phase (Err TooLong) = phase ≢ Err None → phase ≡ ends names [] 8
Agrees names phase (Err end) = ⊤

-- Some bytes of the files give such a session, or such a fault.
pub record IsOpened (l : Result Session InputFault) : Type 0 where
  pub problem : List ℕ
  pub published : Option (List ℕ)
  pub is : opened problem published ≡ seen l

-- which of the words of these files were asked for, by what was read
abbrev pub IsFaultyAt : FileWords → (names : List (List ℕ)) → Input → Type 0
IsFaultyAt words names Problem = names ≡ words.problem ∷ []
IsFaultyAt words names Published = IsSome words.published × (names ≡ first_words words)

abbrev pub IsAsked : {T : Type 0} → FileWords → (names : List (List ℕ)) → Result (Result T InputFault) End → Type 0
IsAsked words names (Ok (Ok x)) = names ≡ first_words words
IsAsked words names (Ok (Err f)) = IsFaultyAt words names f.input
IsAsked words names (Err end) = ⊤

-- The names asked for before the script are the first of these words, also of those that the plain run asks for, and no
-- more is read of them than may be.
pub record Fetches {A : Type 0} (words : FileWords) (limit : ℕ) (holds : List ℕ → Option (List ℕ)) (left : Option (List ℕ)) (phase : Phase A) (before now : Option (List (List ℕ))) (result : Result (Result A InputFault) End) : Type 0 where
  pub names : List (List ℕ)
  pub asked : AsksAll before now names
  pub some : 0 < length names
  pub first : IsFront names (first_words words)
  pub each : IsAsked words names result
  pub within : IfErr phase (λ ended. IfSome ended (λ r. IsFront names r.names))
  pub agrees : Agrees names phase result
  pub reads : ReadsWithin limit holds left names
  pub fits : IsOk result → AllByRecursion (HasAtMost limit holds) names

-- What reading the files before the script and writing the first line leave.
abbrev pub Opens : Phase Session → (before now : Option (List ℕ)) → Result (Result Session InputFault) End → Type 0
Opens phase before now (Ok l) = IsOpened l × Writes before now (first_line (seen l))
Opens phase before now (Err Sink) = (names : List (List ℕ)) × (l : Result Session InputFault) × Agrees names phase (Ok l) × WritesFront before now (first_line (seen l))
Opens phase before now (Err end) = now ≡ before

-- the replies to the whole lines of these bytes
abbrev pub replies_up_to : Session → (taken : List ℕ) → List (List ℕ)
replies_up_to d taken = replies_to d (lines_of (whole_lines taken))

-- the replies to what is answered of a script
abbrev pub replies_within : (limit : ℕ) → Session → (script : List ℕ) → List (List ℕ)
replies_within limit d script = replies_to d (lines_of (answered_part limit script))

-- What serving a script leaves, where so many bytes are left of the open file.
abbrev pub Serves : (limit : ℕ) → (before now : Option (List ℕ)) → Session → (script : List ℕ) → (left : Option (List ℕ)) → Result Bool End → Type 0
Serves limit before now d s left (Ok refused) = (is_long_script limit s ≡ false) × (refused ≡ refuses d (lines_of s)) × Writes before now (concat (replies_to d (lines_of s)))
Serves limit before now d s left (Err Files) = WritesFirst before now (replies_within limit d s) × Writes before now (concat (replies_up_to d (taken_of s left))) × (has_quit (taken_of s left) ≡ false)
Serves limit before now d s left (Err Sink) = WritesFront before now (concat (replies_within limit d s))
Serves limit before now d s left (Err Memory) = WritesBefore before now d (lines_of (answered_part limit s))
Serves limit before now d s left (Err TooLong) = (is_long_script limit s ≡ true) × Writes before now (concat (replies_within limit d s))

-- This line was answered.
pub record Answers (line : List ℕ) (before now : Option (List ℕ)) (d d' : Session) (outcome : Outcome) : Type 0 where
  pub session : (line_step d line).session ≡ d'
  pub outcome_is : (line_step d line).outcome ≡ outcome
  pub written : Writes before now (reply_of (line_step d line))

-- The first line of this text was taken, and what follows it is to come.
pub record TakesLine (text : List ℕ) (reader : Reader) (left : Option (List ℕ)) : Type 0 where
  pub some : 0 < length text
  pub later : to_come reader left ≡ Some (after_line text)
  -- a line without a line end is taken only where the end of the file was met
  pub last : reader.ended ≡ false → has_line_end text ≡ true

-- The text was ended, or its first line was answered.
pub record AnswersLine (text : List ℕ) (before now : Option (List ℕ)) (d d' : Session) (reader : Reader) (left : Option (List ℕ)) (outcome : Outcome) : Type 0 where
  pub taken : TakesLine text reader left
  pub answered : Answers (leading_line text) before now d d' outcome

pub record EndsScript (text : List ℕ) (before now : Option (List ℕ)) (d d' : Session) (reader : Reader) (outcome : Outcome) : Type 0 where
  pub none : text ≡ []
  pub session : d' ≡ d
  pub outcome_is : outcome ≡ Ended
  pub written : now ≡ before
  pub met : reader.ended ≡ true

-- What serving the next line of this text leaves.
abbrev pub ServesNext : (text : List ℕ) → (before now : Option (List ℕ)) → (d d' : Session) → Reader → (left : Option (List ℕ)) → Result Outcome End → Type 0
ServesNext text before now d d' reader left (Ok outcome) = EndsScript text before now d d' reader outcome ⊎ AnswersLine text before now d d' reader left outcome
ServesNext text before now d d' reader left (Err Files) = (now ≡ before) × StopsIn text [] left
ServesNext text before now d d' reader left (Err Sink) = TakesLine text reader left × WritesFront before now (reply_of (line_step d (leading_line text)))
ServesNext text before now d d' reader left (Err Memory) = TakesLine text reader left × (now ≡ before) × IsMemoryCause d (leading_line text)
ServesNext text before now d d' reader left (Err TooLong) = (now ≡ before) × ((b : ℕ) × StopsIn text (b ∷ []) left)

-- What serving a next line leaves, whatever it is: the script was ended, or some line was answered; nothing is written where the
-- run ends, but for a failed write.
abbrev pub ServesSome : (before now : Option (List ℕ)) → (d d' : Session) → Result Outcome End → Type 0
ServesSome before now d d' (Ok outcome) = ((now ≡ before) × (is_end outcome ≡ true)) ⊎ ((line : List ℕ) × Answers line before now d d' outcome)
ServesSome before now d d' (Err end) = end ≢ Sink → now ≡ before

-- The replies to some lines were written.
abbrev pub WritesReplies : (before now : Option (List ℕ)) → Session → Type 0
WritesReplies before now d = (lines : List (List ℕ)) × Writes before now (concat (replies_to d lines))

-- how many bytes past the limit were read
abbrev pub past_limit : {T : Type 0} → Result T End → ℕ
past_limit (Err TooLong) = 1
past_limit _ = 0

-- What making a problem and writing its first line leave, where the text gives this.
abbrev pub OpensMade : Option (List ℕ) → Option (List ℕ) → Result Session FaultyFile → Result (Result Session InputFault) End → Type 0
OpensMade before now o (Ok l) = (o ≡ seen l) × Writes before now (first_line (seen l))
OpensMade before now o (Err Files) = ⊥
OpensMade before now o (Err Sink) = WritesFront before now (first_line o)
OpensMade before now o (Err Memory) = now ≡ before
OpensMade before now o (Err TooLong) = ⊥

-- What serving the lines of a text leaves.
abbrev pub ServesLines : Option (List ℕ) → Option (List ℕ) → Session → List ℕ → Result Bool End → Type 0
ServesLines before now d text (Ok refused) = (refused ≡ refuses d (lines_of text)) × Writes before now (concat (replies_to d (lines_of text)))
ServesLines before now d text (Err Files) = ⊥
ServesLines before now d text (Err Sink) = WritesFront before now (concat (replies_to d (lines_of text)))
ServesLines before now d text (Err Memory) = WritesBefore before now d (lines_of text)
ServesLines before now d text (Err TooLong) = ⊥

-- What a run writes that asks for no file, where this is the plain run.
pub record WritesPlain (r : PlainRun) (before now : Option (List ℕ)) (status : ℕ) : Type 0 where
  pub whole : status ≤ 4 → Writes before now (text_of r)
  pub pieces : status ≢ 6 → WritesFirst before now r.pieces
  pub wanting : status ≡ 7 → WritesLess before now (text_of r)
  pub front : WritesFront before now (text_of r)
  pub statuses : (status ≡ r.status) ⊎ ((status ≡ 6) ⊎ (status ≡ 7))
  pub no_files : status ≢ 5
  pub no_limit : status ≢ 8
