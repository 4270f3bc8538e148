-- Proof. What is left by a command that was carried out, or for which memory is wanting.
use Rattle.std.specs.Prelude.{◌≡◌, ℕ, Bool, true, false, List, [], Result, Ok, Err, if◌then◌else◌}
use Rattle.tt_script.specs.declared.command.Command as script
use Rattle.tt_script.specs.declared.command.Command.TheVariants.{Quit}
use Rattle.tt_desk.specs.declared.refusal.Outcome.{Outcome}
use Rattle.tt_desk.specs.declared.refusal.Outcome.TheVariants.{Accepted, Ended}
use Rattle.tt_desk.specs.declared.refusal.Outcome.TheVariants as outcome
use Rattle.tt_desk.specs.declared.unmet.Unmet as unmet
use Rattle.tt_desk.specs.declared.unmet.Unmet.TheVariants.{Refused, Wanting}
use Rattle.tt_desk.specs.declared.wanting.Wanting as wanting
use Rattle.tt_desk.specs.declared.wanting.Wanting.TheVariants.{Command, Reply}
use Rattle.tt_desk.specs.Desk.{Session, Step, same, carried_out, step_from}
use Rattle.tt_desk.specs.Causes.{MayTake}

-- The command was done, with these lines; or it is refused, and nothing was done; or memory is wanting for what it does, and
-- nothing was done, or for its lines, and all was done. It is wanting only where the command may take some.
abbrev pub IsDone : (before : Session) → script.Command → (now : Session) → (lines : List ℕ) → Result (Unit {0}) unmet.Unmet → Type 0
IsDone before command now lines (Ok done) = carried_out before command ≡ Ok (same now lines)
IsDone before command now lines (Err (Refused why)) = (carried_out before command ≡ Err why) × (now ≡ before) × (lines ≡ [])
IsDone before command now lines (Err (Wanting Command)) = MayTake before command × (now ≡ before)
IsDone before command now lines (Err (Wanting Reply)) = MayTake before command × ((step_from before (carried_out before command)).session ≡ now) × ((step_from before (carried_out before command)).outcome ≡ Accepted)

abbrev pub is_quit : script.Command → Bool
is_quit Quit = true
is_quit _ = false

-- what becomes of a line, by whether its command ends the script and by how it was carried out
abbrev pub outcome_of : (ends : Bool) → Result (Unit {0}) unmet.Unmet → Result Outcome wanting.Wanting
outcome_of ends (Ok done) = Ok (if ends then Ended else Accepted)
outcome_of ends (Err (Refused why)) = Ok (outcome.Refused why)
outcome_of ends (Err (Wanting wanting)) = Err wanting

-- The step was made, with these lines; or memory is wanting for what it does, and nothing was done, or for its lines, and all was
-- done. Then this is the cause.
abbrev pub IsCarriedOut : Step → (cause : Type 0) → (before now : Session) → (lines : List ℕ) → Result Outcome wanting.Wanting → Type 0
IsCarriedOut step cause before now lines (Ok outcome) = step ≡ record { session = now; outcome = outcome; lines = lines }
IsCarriedOut step cause before now lines (Err Command) = cause × (now ≡ before)
IsCarriedOut step cause before now lines (Err Reply) = cause × (step.session ≡ now) × (step.outcome ≡ Accepted)
