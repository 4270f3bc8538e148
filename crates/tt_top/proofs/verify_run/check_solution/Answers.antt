use Rattle.std.proofs.Common.{Ok, refl}
use Rattle.tt_base.proofs.ResultLemmas.{handed_on}
use Rattle.tt_top.specs.PlainRun.{timetable_phase, checking}
use Rattle.tt_top.proofs.FetchLemmas.{faulty_first, ended_first}
use Rattle.tt_top.proofs.VerifyLemmas.{found_agrees}
use Rattle.tt_top.proofs.verify_run.check_solution.Goals as goal

pub returns-in_ok-found-in-Ok-clause-agrees : goal.returns-in_ok-found-in-Ok-clause-agrees
returns-in_ok-found-in-Ok-clause-agrees g c = λ names.
    found_agrees c.args.setting.limit (g.F.Files.holds c.args.files.now) names c.args.problem.now c.args.solution.now c.in-Ok.timetable c.in_ok-found-in-Ok.field-0 (rw c.in-Ok.is at c.in_ok-timetable.ensures.agrees names) (c.in_ok-found-in-Ok.ensures names)

pub returns-in-Err-clause-agrees : goal.returns-in-Err-clause-agrees
returns-in-Err-clause-agrees g c = λ names.
    faulty_first names (timetable_phase c.args.setting.limit (g.F.Files.holds c.args.files.now) names c.args.problem.now c.args.solution.now) (λ t. Ok (checking names c.args.problem.now t)) c.in-Err.fault (rw c.in-Err.is at c.in_ok-timetable.ensures.agrees names)

pub returns-in_err-timetable-clause-agrees : goal.returns-in_err-timetable-clause-agrees
returns-in_err-timetable-clause-agrees g c = λ names.
    rw (handed_on _ _ c.from_residual.ensures.1)
    (ended_first names (timetable_phase c.args.setting.limit (g.F.Files.holds c.args.files.now) names c.args.problem.now c.args.solution.now) (λ t. Ok (checking names c.args.problem.now t)) c.in_err-timetable.field-0.0 (c.in_err-timetable.ensures.agrees names))

pub returns-in_ok-found-in-Ok-clause-reads : goal.returns-in_ok-found-in-Ok-clause-reads
returns-in_ok-found-in-Ok-clause-reads g c = c.in_ok-timetable.ensures.reads

pub returns-in_ok-found-in-Ok-clause-fits : goal.returns-in_ok-found-in-Ok-clause-fits
returns-in_ok-found-in-Ok-clause-fits g c = λ _. c.in_ok-timetable.ensures.fits refl

pub returns-in_err-found-in-Ok-clause-reads : goal.returns-in_err-found-in-Ok-clause-reads
returns-in_err-found-in-Ok-clause-reads g c = c.in_ok-timetable.ensures.reads

pub returns-in-Err-clause-reads : goal.returns-in-Err-clause-reads
returns-in-Err-clause-reads g c = c.in_ok-timetable.ensures.reads

pub returns-in-Err-clause-fits : goal.returns-in-Err-clause-fits
returns-in-Err-clause-fits g c = λ _. c.in_ok-timetable.ensures.fits refl

pub returns-in_err-timetable-clause-reads : goal.returns-in_err-timetable-clause-reads
returns-in_err-timetable-clause-reads g c = c.in_err-timetable.ensures.reads
