-- What is left by a command that was carried out, or for which memory is wanting.
use Rattle.std.proofs.Common.{◌≡◌, ◌∙◌, ap, ℕ, List, Result, Ok, Err, inr}
use Rattle.std.specs.Prelude.{IfOk, OnErr, true, false}
use Rattle.tt_script.specs.declared.command.Command.{Command}
use Rattle.tt_script.specs.declared.command.Command.TheVariants.{Quit}
use Rattle.tt_script.specs.declared.script.Line.TheVariants.{Good}
use Rattle.tt_script.specs.Script.{line_of}
use Rattle.tt_desk.specs.declared.refusal.Outcome.{Outcome}
use Rattle.tt_desk.specs.declared.refusal.Outcome.TheVariants.{Accepted, Ended}
use Rattle.tt_desk.specs.declared.wanting.Wanting as wanted
use Rattle.tt_desk.specs.declared.wanting.Wanting.TheVariants as wanting
use Rattle.tt_desk.specs.declared.unmet.Unmet.{Unmet}
use Rattle.tt_desk.specs.declared.unmet.Unmet.TheVariants.{Refused, Wanting}
use Rattle.tt_desk.specs.Desk.{Session, Answer, Step, carried_out, command_step, step_from, step_of, line_step}
use Rattle.tt_desk.specs.Causes.{MayTake, IsMemoryCause}
use Rattle.tt_desk.specs.Carried.{IsCarriedOut, IsDone, is_quit, outcome_of}

-- what becomes of a command that goes on
carried_on : (before : Session) (command : Command) (now : Session) (lines : List ℕ) (r : Result (Unit {0}) Unmet) → IsDone before command now lines r → IsCarriedOut (step_from before (carried_out before command)) (MayTake before command) before now lines (outcome_of false r)
carried_on before command now lines (Ok x) done = ap (step_from before) done
carried_on before command now lines (Err (Refused why)) done = rw (done.1, done.2) (ap (step_from before) done.0)
carried_on before command now lines (Err (Wanting wanting.Command)) done = done
carried_on before command now lines (Err (Wanting wanting.Reply)) done = done

-- and of `quit`
quitted : (before now : Session) (lines : List ℕ) (r : Result (Unit {0}) Unmet) → IsDone before Quit now lines r → IsCarriedOut (command_step before Quit) (MayTake before Quit) before now lines (outcome_of true r)
quitted before now lines (Ok x) done = ap ended (cc done)
  where
    ended : Answer → Step
    ended a = record { session = a.session; outcome = Ended; lines = a.lines }
quitted before now lines (Err (Refused why)) done = absurd (cc done.0)
quitted before now lines (Err (Wanting wanting.Command)) done = absurd done.0
quitted before now lines (Err (Wanting wanting.Reply)) done = absurd done.0

pub carried : (before : Session) (command : Command) (now : Session) (lines : List ℕ) (r : Result (Unit {0}) Unmet) → IsDone before command now lines r → IsCarriedOut (command_step before command) (MayTake before command) before now lines (outcome_of (is_quit command) r)
carried before Quit now lines r done = quitted before now lines r done
carried before command now lines r done = carried_on before command now lines r done

-- ---- the command of a line

module _ (s : Session) (line : List ℕ) (command : Command) (now : Session) (lines : List ℕ) (is : line_of line ≡ Good command) where
  step_is : line_step s line ≡ command_step s command
  unfolding line_step
  step_is = ap (step_of s) is

  cause_is : MayTake s command → IsMemoryCause s line
  unfolding IsMemoryCause
  cause_is takes = inr (rw is takes)

  pub good_ok : (r : Result Outcome wanted.Wanting) → IsCarriedOut (command_step s command) (MayTake s command) s now lines r → IfOk r (λ outcome. line_step s line ≡ record { session = now; outcome = outcome; lines = lines })
  good_ok (Ok outcome) carried = step_is ∙ carried
  good_ok (Err w) carried = tt

  pub good_memory : (r : Result Outcome wanted.Wanting) → IsCarriedOut (command_step s command) (MayTake s command) s now lines r → OnErr r (IsMemoryCause s line)
  good_memory (Ok outcome) carried = tt
  good_memory (Err wanting.Command) carried = cause_is carried.0
  good_memory (Err wanting.Reply) carried = cause_is carried.0

  pub good_kept : (r : Result Outcome wanted.Wanting) → IsCarriedOut (command_step s command) (MayTake s command) s now lines r → r ≡ Err wanting.Command → now ≡ s
  good_kept (Ok outcome) carried e = absurd (cc e)
  good_kept (Err wanting.Command) carried e = carried.1
  good_kept (Err wanting.Reply) carried e = absurd (cc e)

  pub good_done : (r : Result Outcome wanted.Wanting) → IsCarriedOut (command_step s command) (MayTake s command) s now lines r → r ≡ Err wanting.Reply → (line_step s line).session ≡ now
  good_done (Ok outcome) carried e = absurd (cc e)
  good_done (Err wanting.Command) carried e = absurd (cc e)
  good_done (Err wanting.Reply) carried e = ap (λ step. step.session) step_is ∙ carried.1

  pub good_accepted : (r : Result Outcome wanted.Wanting) → IsCarriedOut (command_step s command) (MayTake s command) s now lines r → r ≡ Err wanting.Reply → (line_step s line).outcome ≡ Accepted
  good_accepted (Ok outcome) carried e = absurd (cc e)
  good_accepted (Err wanting.Command) carried e = absurd (cc e)
  good_accepted (Err wanting.Reply) carried e = ap (λ step. step.outcome) step_is ∙ carried.2
