-- Theorem. The clauses of the top call.
use Rattle.std.specs.Prelude.{◌≡◌, ◌≢◌, ◌≤◌, ◌<◌, ◌+◌, ⊤, ℕ, Bool, false, List, [], ◌∷◌, ◌++◌, ◌⊎◌, IfSome, IsSome, take, length, if◌then◌else◌, None, Some, Option, option_and_then}
use Rattle.std.specs.List.{concat}
use Rattle.tt_io.specs.Causes.{Writes, one_more, AsksAll, most_read}
use Rattle.tt_make.specs.Text.{make_text}
use Rattle.tt_script.specs.Script.{lines_of}
use Rattle.tt_top.specs.Words.{FileWords, Form, Files, Verify, Demo, Make, first_words, file_words, verify_words}
use Rattle.tt_top.specs.Opening.{opened}
use Rattle.tt_top.specs.Pieces.{has_quit, taken_of, whole_lines}
use Rattle.tt_top.specs.PlainRun.{PlainRun, text_of, file_run, lines_run, verify_run, demo_script, demo_run, made_run, make_run, usage_run}
use Rattle.tt_top.specs.Wanting.{served_phase, made_phase, IsWanting}

-- the most bytes of a file
abbrev pub file_limit : ℕ
file_limit = 134217728

-- ---- what a run meets

-- the files and the output at one moment: the names asked for, the bytes left of the open file and the bytes written, where
-- they are told, and how many calls on each have failed
pub record Moment : Type 0 where
  pub asked : Option (List (List ℕ))
  pub left : Option (List ℕ)
  pub written : Option (List ℕ)
  pub files : ℕ
  pub sink : ℕ

-- the moment at which this is told; of a file that isn't open nothing is left
abbrev pub moment : (asked : Option (List (List ℕ))) → (is_open : Bool) → (left written : Option (List ℕ)) → (files sink : ℕ) → Moment
moment asked is_open left written files sink = record { asked = asked; left = if is_open then left else None; written = written; files = files; sink = sink }

-- the bytes that the files hold under a name, where they are told, and the moments before the run and after it
pub record Outside : Type 0 where
  pub holds : List ℕ → Option (List ℕ)
  pub before : Moment
  pub now : Moment

-- ---- what a run writes

-- Where what is written is told after the run, it was told before, and grew by a text of which this holds.
abbrev pub Wrote : Outside → (List ℕ → Type 0) → Type 0
Wrote o Is = (text : List ℕ) × Writes o.before.written o.now.written text × Is text

-- These are the first of those.
abbrev pub IsFront : {A : Type 0} → (xs ys : List A) → Type 0
IsFront {A} xs ys = (rest : List A) × (ys ≡ xs ++ rest)

-- The text is the first of these pieces, each whole.
abbrev pub IsFirst : (text : List ℕ) → (pieces : List (List ℕ)) → Type 0
IsFirst text pieces = (count : ℕ) × (text ≡ concat (take count pieces))

-- ---- what all runs do

-- neither a failed call nor want of memory ended the run
abbrev pub IsOwn : (status : ℕ) → Type 0
IsOwn status = (status ≤ 4) ⊎ (status ≡ 8)

-- A run with these names asked for is a plain run, or a first part of it.
pub record Follows (r : PlainRun) (o : Outside) (names : List (List ℕ)) (status : ℕ) : Type 0 where
  -- one that neither a failed call nor want of memory ended is the plain run
  pub whole : IsOwn status → Writes o.before.written o.now.written (text_of r)
  pub ended : IsOwn status → status ≡ r.status
  pub asked : IsOwn status → names ≡ r.names
  -- any other is a first part, in which but for a failed write each piece is written whole or not at all
  pub front : Wrote o (λ text. IsFront text (text_of r))
  pub pieces : status ≢ 6 → Wrote o (λ text. IsFirst text r.pieces)
  pub first : IsFront names r.names
  -- where no count of failed calls rose, the status is that of the plain run, or says that memory is wanting
  pub complete : o.now.files ≢ one_more o.before.files → o.now.sink ≢ one_more o.before.sink → (status ≡ r.status) ⊎ (status ≡ 7)

-- The first call that fails ends the run, with 5 or 6, and nothing else ends it so.
pub record HasCauses (o : Outside) (status : ℕ) : Type 0 where
  pub files : status ≡ 5 → o.now.files ≡ one_more o.before.files
  pub sink : status ≡ 6 → o.now.sink ≡ one_more o.before.sink
  pub files_same : status ≢ 5 → o.now.files ≡ o.before.files
  pub sink_same : status ≢ 6 → o.now.sink ≡ o.before.sink

-- ---- what is read of long files

-- At most so many bytes of the file of this name are read, where it is told what it holds and what is left of it.
abbrev pub IsReadAtMost : (most : ℕ) → (holds : List ℕ → Option (List ℕ)) → (left : Option (List ℕ)) → (name : List ℕ) → Type 0
IsReadAtMost most holds left name = IfSome (holds name) (λ all. IfSome left (λ rest. length all ≤ length rest + most))

-- Of the files with these names each but the last has no more bytes than the limit, and of the last at most 65,536 bytes beyond it
-- are read.
abbrev pub ReadsWithin : (limit : ℕ) → (holds : List ℕ → Option (List ℕ)) → (left : Option (List ℕ)) → (names : List (List ℕ)) → Type 0
ReadsWithin limit holds left [] = ⊤
ReadsWithin limit holds left (name ∷ []) = IsReadAtMost (limit + most_read) holds left name
ReadsWithin limit holds left (name ∷ next ∷ names) = IfSome (holds name) (λ all. length all ≤ limit) × ReadsWithin limit holds left (next ∷ names)

-- ---- what runs with files do

-- Whatever the files tell, these names were asked for, which are the first of the file words.
pub record AsksInOrder (words : FileWords) (o : Outside) (names : List (List ℕ)) (status : ℕ) : Type 0 where
  pub asked : AsksAll o.before.asked o.now.asked names
  pub first : IsFront names (file_words words)
  pub some : status ≢ 7 → 0 < length names
  pub all : status ≤ 1 → names ≡ file_words words
  pub faulty_problem : status ≡ 3 → names ≡ words.problem ∷ []
  pub faulty_published : status ≡ 4 → IsSome words.published × (names ≡ first_words words)
  -- a run that ends early without having asked for a script has written nothing, but for a failed write
  pub quiet : 5 ≤ status → status ≢ 6 → length names ≤ length (first_words words) → Writes o.before.written o.now.written []

-- The script is among the names asked for.
abbrev pub AsksScript : FileWords → (names : List (List ℕ)) → Type 0
AsksScript words names = length (first_words words) < length names

-- What a run does that asks for files, where this is the plain run if the files tell it, and a file has at most so many bytes.
pub record UsesFiles (words : FileWords) (limit : ℕ) (due : Option PlainRun) (o : Outside) (names : List (List ℕ)) (status : ℕ) : Type 0 where
  pub plain : IfSome due (λ r. Follows r o names status)
  pub asks : AsksInOrder words o names status
  pub causes : HasCauses o status
  pub at_most : status ≤ 8
  pub no_usage : status ≢ 2
  -- at most 65,536 bytes beyond the limit are read of any file, also where a read fails
  pub reads : ReadsWithin limit o.holds o.now.left names

-- What is done before the script is opened, where this is the plain run that answers no line.
pub record Begins (r : PlainRun) (words : FileWords) (o : Outside) (names : List (List ℕ)) (status : ℕ) : Type 0 where
  -- nothing is written, or the first line and maybe more, but for a failed write
  pub line : status ≢ 6 → Wrote o (λ text. (text ≡ []) ⊎ IsFront (text_of r) text)
  pub first : IsFront names r.names
  -- the script is asked for after the first line
  pub after_line : AsksScript words names → Wrote o (λ text. IsFront (text_of r) text)

-- The text is what a plain desk writes for some bytes of a problem, of a published file or none, and for some lines: the first of
-- its pieces, each whole.
pub record IsDeskText (text : List ℕ) : Type 0 where
  pub problem : List ℕ
  pub published : Option (List ℕ)
  pub lines : List (List ℕ)
  pub first : IsFirst text (made_run lines (opened problem published)).pieces

-- What a run does that answers a script, or checks a problem, where a file has at most so many bytes.
pub record IsFileRun (words : FileWords) (limit : ℕ) (o : Outside) (status : ℕ) : Type 0 where
  pub names : List (List ℕ)
  pub run : UsesFiles words limit (file_run limit o.holds words) o names status
  -- where memory is wanting, it is so before the first line, or for the command of the first line that wasn't answered
  pub wanting : status ≡ 7 → IsWanting (served_phase limit o.holds words) o.before.written o.now.written
  -- what is done before the script is opened, whatever it holds
  pub begins : IfSome (lines_run limit o.holds words []) (λ r. Begins r words o names status)
  -- where a call on the files failed, nothing is written, or the first line and the reply to each line that was taken whole
  pub failed : status ≡ 5 → IfSome (option_and_then o.holds words.script) (λ script. IfSome (lines_run limit o.holds words (lines_of (whole_lines (taken_of script o.now.left))))
      (λ r. Wrote o (λ text. (text ≡ []) ⊎ (text ≡ text_of r))))
  -- where a read of the script failed, no whole line of what was taken is `quit`, so that nothing is read after it
  pub quits : status ≡ 5 → AsksScript words names → IfSome (option_and_then o.holds words.script) (λ script. has_quit (taken_of script o.now.left) ≡ false)
  -- whatever the files tell, nothing is written, or a first line and whole replies
  pub untold : status ≢ 6 → Wrote o IsDeskText

-- What a run does that checks a solution file.
pub record IsVerifyRun (problem solution : List ℕ) (limit : ℕ) (o : Outside) (status : ℕ) : Type 0 where
  pub names : List (List ℕ)
  pub run : UsesFiles (verify_words problem solution) limit (verify_run limit o.holds problem solution) o names status

-- ---- what runs without files do

-- What a run does that asks for no file, where this is the plain run.
pub record IsPlainRun (r : PlainRun) (o : Outside) (status : ℕ) : Type 0 where
  pub plain : Follows r o [] status
  -- where memory is wanting, less than the whole is written
  pub wanting : status ≡ 7 → Wrote o (λ text. IsFront text (text_of r) × (length text < length (text_of r)))
  -- the status is that of the plain run, or says that a write failed or memory is wanting
  pub statuses : (status ≡ r.status) ⊎ ((status ≡ 6) ⊎ (status ≡ 7))
  pub causes : HasCauses o status
  pub asks : o.now.asked ≡ o.before.asked

-- What `demo` does.
pub record IsDemoRun (seed classes turns : ℕ) (o : Outside) (status : ℕ) : Type 0 where
  pub run : IsPlainRun (demo_run seed classes turns) o status
  -- where memory is wanting, it is so before the first line, or for the command of the first line that wasn't answered
  pub wanting : status ≡ 7 → IsWanting (made_phase (lines_of (demo_script seed turns)) (opened (make_text seed classes) None)) o.before.written o.now.written

-- Words of no form give the usage line, for which no memory is wanted.
pub record IsUsage (o : Outside) (status : ℕ) : Type 0 where
  pub run : IsPlainRun usage_run o status
  pub no_memory : status ≢ 7

-- ---- all forms

-- What a run does whose words have this form, or none, where a file has at most so many bytes.
abbrev pub IsRun : Option Form → ℕ → Outside → ℕ → Type 0
IsRun (Some (Files words)) limit o status = IsFileRun words limit o status
IsRun (Some (Verify problem solution)) limit o status = IsVerifyRun problem solution limit o status
IsRun (Some (Demo seed classes turns)) limit o status = IsDemoRun seed classes turns o status
IsRun (Some (Make seed classes)) limit o status = IsPlainRun (make_run seed classes) o status
IsRun None limit o status = IsUsage o status
