-- Contract. What the program writes to standard error.
use Rattle.std.specs.Prelude.{ℕ, List, ◌++◌, Option, None, Some, ◌==◌, if◌then◌else◌, codes}
use Rattle.uttab.specs.declared.reason.Reason.{Reason}

-- the line on a status, where the output doesn't say what happened; the file is the one that was asked for last, and the cause is what is said of the call that failed
abbrev pub reason_text : (status : ℕ) → (file cause : List ℕ) → Option (List ℕ)
reason_text status file cause =
    if status == 5 then Some (codes "uttab: " ++ file ++ codes ": " ++ cause)
    else (if status == 6 then Some (codes "uttab: standard output: " ++ cause)
    else (if status == 7 then Some (codes "uttab: out of memory")
    else (if status == 8 then Some (codes "uttab: " ++ file ++ codes ": more than 134217728 bytes")
    else (if status == 9 then Some (codes "uttab: the system gives no arguments")
    else None))))

-- the line that a reason is shown as
abbrev pub line_of : Reason → Option (List ℕ)
line_of r = reason_text r.status r.file.now r.cause.now
