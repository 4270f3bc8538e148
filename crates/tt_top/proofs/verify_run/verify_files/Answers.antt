use Rattle.std.proofs.Common.{refl, ap, Err}
use Rattle.tt_base.proofs.ResultLemmas.{handed_on}
use Rattle.tt_top.proofs.VerifyLemmas.{unchecked_run, unwritten_run, checked_run}
use Rattle.tt_top.proofs.verify_run.verify_files.Goals as goal

pub returns-in_err-check-clause-runs : goal.returns-in_err-check-clause-runs
returns-in_err-check-clause-runs g c =
    let e = c.in_err-check.ensures in
    rw (handed_on _ _ c.from_residual.ensures.1)
    (unchecked_run _ _ _ _ c.in_err-check.field-0.0 e.checks refl refl (λ is. e.no_sink (ap Err is)) e.cause)

pub returns-in_err-write_check-clause-runs : goal.returns-in_err-write_check-clause-runs
returns-in_err-write_check-clause-runs g c =
    let e = c.in_ok-check.ensures in
    let w = c.in_err-write_check.ensures in
    rw (handed_on _ _ c.from_residual-in_err-write_check.ensures.1)
    (unwritten_run _ _ _ _ c.in_ok-check.check e.checks e.cause c.in_err-write_check.field-0.0 (λ is. w.memory (ap Err is)) w.front (λ is. w.no_files (ap Err is)) (λ is. w.no_limit (ap Err is)) w.cause)

pub returns-clause-runs : goal.returns-clause-runs
returns-clause-runs g c =
    let e = c.in_ok-check.ensures in
    let w = c.in_ok-write_check.ensures in
    checked_run _ _ _ _ c.in_ok-check.check e.checks e.cause c.done_of.result c.done_of.ensures w.written (w.cause.same (λ is. cc))
