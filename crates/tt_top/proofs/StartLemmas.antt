-- A session that is started over what was read, for which memory may be wanting.
use Rattle.std.proofs.Common.{◌≡◌, ◌≢◌, ◌∙◌, sym, ap, refl, ℕ, List, Option, Result, Ok, Err}
use Rattle.std.specs.Prelude.{IfOk, IfErr}
use Rattle.tt_problem.specs.declared.parts.Parts.{Parts}
use Rattle.tt_published.specs.Timetable.{Timetable}
use Rattle.tt_desk.specs.Desk.{Session, opening_session}
use Rattle.tt_top.specs.declared.end.End.{End}
use Rattle.tt_top.specs.declared.end.End.TheVariants.{Files, Sink, Memory, TooLong}
use Rattle.tt_top.specs.declared.end.InputFault.{InputFault}
use Rattle.tt_top.specs.Opening.{FaultyFile}
use Rattle.tt_top.specs.Phases.{published_in, started, published_phase, start_phase}
use Rattle.tt_top.specs.Ends.{Agrees, HasEndCause, seen}
use Rattle.tt_top.specs.Started.{fetched_by}
use Rattle.tt_top.proofs.EndLemmas.{done_cause, other_end}
use Rattle.tt_top.proofs.FetchLemmas.{start_agrees}

-- ---- what is fetched with it

module _ {E : Type 0} where
  pub fetched_starts : (p : Parts) (t : Option Timetable) (r : Result Session E) → IfOk r (λ s. s ≡ opening_session p t) → IfOk (fetched_by r) (λ l. started p (Ok t) ≡ seen l)
  fetched_starts p t (Ok s) is = ap Ok (sym is)
  fetched_starts p t (Err e) is = tt

  pub fetched_opens : (o : Result Session FaultyFile) (p : Parts) (t : Option Timetable) (r : Result Session E) → o ≡ Ok (opening_session p t) → IfOk r (λ s. s ≡ opening_session p t) → IfOk (fetched_by r) (λ l. o ≡ seen l)
  fetched_opens o p t (Ok s) opens is = opens ∙ ap Ok (sym is)
  fetched_opens o p t (Err e) opens is = tt

  -- no file has a fault
  pub fetched_sound : (P : InputFault → Type 0) (r : Result Session E) → IfOk (fetched_by r) (λ l. IfErr l P)
  fetched_sound P (Ok s) = tt
  fetched_sound P (Err e) = tt

  pub fetched_only : (r : Result Session E) → IfErr (fetched_by r) (λ end. end ≡ Memory)
  fetched_only (Ok s) = tt
  fetched_only (Err e) = refl

-- ---- what comes last, and ends the run for want of memory alone

pub start_follows : (limit : ℕ) (holds : List ℕ → Option (List ℕ)) (names : List (List ℕ)) (p : Parts) (published : Option (List ℕ)) (read : Result (Option Timetable) InputFault) (r : Result (Result Session InputFault) End)
    → Agrees names (published_phase limit holds names p published) (Ok read) → IfOk r (λ l. started p (seen read) ≡ seen l) → IfErr r (λ e. e ≡ Memory) → Agrees names (start_phase limit holds names p published) r
start_follows limit holds names p published read (Ok l) agrees starts only = start_agrees limit holds names p published read l agrees starts
start_follows limit holds names p published read (Err Files) agrees starts only = tt
start_follows limit holds names p published read (Err Sink) agrees starts only = tt
start_follows limit holds names p published read (Err Memory) agrees starts only = tt
start_follows limit holds names p published read (Err TooLong) agrees starts only = absurd (cc only)

pub start_read : (p : Parts) (read : Result (Option Timetable) InputFault) (r : Result (Result Session InputFault) End) → ((o : Option (List ℕ)) × (published_in p o ≡ seen read)) → IfOk r (λ l. started p (seen read) ≡ seen l) → IfOk r (λ l. (o : Option (List ℕ)) × (started p (published_in p o) ≡ seen l))
start_read p read (Ok l) was starts = (was.0, ap (started p) was.1 ∙ starts)
start_read p read (Err e) was starts = tt

pub start_fault : {T : Type 0} (read : Result (Option Timetable) InputFault) (P : InputFault → Type 0) (r : Result (Result T InputFault) End) → IfErr read P → IfOk r (λ l. IfErr l (λ f. read ≡ Err f)) → IfOk r (λ l. IfErr l P)
start_fault read P (Ok (Ok s)) was is = tt
start_fault read P (Ok (Err f)) was is = rw is at was
start_fault read P (Err e) was is = tt

pub start_sink : {T : Type 0} (r : Result T End) → IfErr r (λ e. e ≡ Memory) → r ≢ Err Sink
start_sink (Ok x) only is = cc is
start_sink (Err e) only is = let same : e ≡ Sink = cc in cc (sym same ∙ only)

pub start_cause : {T U : Type 0} (before now : ℕ) (x : T) (r : Result U End) → HasEndCause {T = T} Files before now (Ok x) → IfErr r (λ e. e ≡ Memory) → HasEndCause {T = U} Files before now r
start_cause before now x (Ok y) cause only = done_cause Files before now x y cause
start_cause before now x (Err e) cause only = other_end Files e before now (cause.same (λ is. cc is)) (λ is. cc (sym is ∙ only))
