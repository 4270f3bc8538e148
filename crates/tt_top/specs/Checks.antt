-- Proof. What reading the two files of `verify` and checking the solution leave.
use Rattle.std.specs.Prelude.{ℕ, List, [], ◌∷◌, Result, Ok, Err, if◌then◌else◌}
use Rattle.tt_top.specs.declared.end.End.{End}
use Rattle.tt_top.specs.declared.end.InputFault.{InputFault}
use Rattle.tt_top.specs.declared.verify_run.Check.{Check}
use Rattle.tt_top.specs.PlainRun.{PlainRun}
use Rattle.tt_top.specs.Ends.{faulty_file, input_status}

-- what is written: what was found, or the line on the fault of a file
abbrev pub check_text : Result Check InputFault → List ℕ
check_text (Ok c) = c.reply
check_text (Err f) = (faulty_file f).line

-- the status then
abbrev pub check_status : Result Check InputFault → ℕ
check_status (Ok c) = if c.violations then 1 else 0
check_status (Err f) = input_status f.input

-- the plain run that writes what was found
abbrev pub check_run : (names : List (List ℕ)) → Check → PlainRun
check_run names c = record { pieces = c.reply ∷ []; status = if c.violations then 1 else 0; names = names }

-- the same of what reading the files gave
abbrev pub check_seen : (names : List (List ℕ)) → Result (Result Check InputFault) End → Result (Result PlainRun InputFault) End
check_seen names (Ok (Ok c)) = Ok (Ok (check_run names c))
check_seen names (Ok (Err f)) = Ok (Err f)
check_seen names (Err end) = Err end
