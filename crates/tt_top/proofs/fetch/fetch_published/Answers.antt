use Rattle.std.proofs.Common.{Some, Ok, refl}
use Rattle.tt_base.proofs.ResultLemmas.{handed_on}
use Rattle.tt_top.specs.PlainRun.{timetable_phase}
use Rattle.tt_top.proofs.FetchLemmas.{made_agrees, faulty_first, ended_first, published_some, published_fault}
use Rattle.tt_top.proofs.fetch.fetch_published.Goals as goal

pub returns-in-Ok-clause-agrees : goal.returns-in-Ok-clause-agrees
returns-in-Ok-clause-agrees g c = λ names.
    rw c.in-Some.is (made_agrees names (timetable_phase c.args.setting.limit (g.F.Files.holds c.args.files.now) names c.args.problem.now c.in-Some.name.now) Some c.in-Ok.timetable (rw c.in-Ok.is at c.in_ok-timetable.ensures.agrees names))

pub returns-in-Ok-clause-read : goal.returns-in-Ok-clause-read
returns-in-Ok-clause-read g c = published_some c.args.problem.now c.in_ok-timetable.field-0 c.in_ok-timetable.ensures.read c.in-Ok.timetable c.in-Ok.is

pub returns-in-Err-clause-agrees : goal.returns-in-Err-clause-agrees
returns-in-Err-clause-agrees g c = λ names.
    rw c.in-Some.is (faulty_first names (timetable_phase c.args.setting.limit (g.F.Files.holds c.args.files.now) names c.args.problem.now c.in-Some.name.now) (λ t. Ok (Some t)) c.in-Err.fault (rw c.in-Err.is at c.in_ok-timetable.ensures.agrees names))

pub returns-in-Err-clause-read : goal.returns-in-Err-clause-read
returns-in-Err-clause-read g c = published_fault c.args.problem.now c.in_ok-timetable.field-0 c.in_ok-timetable.ensures.read c.in-Err.fault c.in-Err.is

pub returns-in_err-timetable-clause-agrees : goal.returns-in_err-timetable-clause-agrees
returns-in_err-timetable-clause-agrees g c = λ names.
    rw c.in-Some.is
    (rw (handed_on _ _ c.from_residual.ensures.1)
    (ended_first names (timetable_phase c.args.setting.limit (g.F.Files.holds c.args.files.now) names c.args.problem.now c.in-Some.name.now) (λ t. Ok (Some t)) c.in_err-timetable.field-0.0 (c.in_err-timetable.ensures.agrees names)))

pub returns-in-Ok-clause-reads : goal.returns-in-Ok-clause-reads
returns-in-Ok-clause-reads g c = rw c.in-Some.is c.in_ok-timetable.ensures.reads

pub returns-in-Ok-clause-fits : goal.returns-in-Ok-clause-fits
returns-in-Ok-clause-fits g c = rw c.in-Some.is (λ _. c.in_ok-timetable.ensures.fits refl)

pub returns-in-Err-clause-reads : goal.returns-in-Err-clause-reads
returns-in-Err-clause-reads g c = rw c.in-Some.is c.in_ok-timetable.ensures.reads

pub returns-in-Err-clause-fits : goal.returns-in-Err-clause-fits
returns-in-Err-clause-fits g c = rw c.in-Some.is (λ _. c.in_ok-timetable.ensures.fits refl)

pub returns-in_err-timetable-clause-reads : goal.returns-in_err-timetable-clause-reads
returns-in_err-timetable-clause-reads g c = rw c.in-Some.is c.in_err-timetable.ensures.reads
