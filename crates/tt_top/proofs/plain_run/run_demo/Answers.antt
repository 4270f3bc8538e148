use Rattle.std.proofs.Common.{◌∙◌, sym, None}
use Rattle.tt_make.specs.Text.{make_text}
use Rattle.tt_top.specs.Opening.{opened}
use Rattle.tt_base.proofs.ResultLemmas.{handed_on}
use Rattle.tt_top.proofs.EndLemmas.{served_cause, cause_after}
use Rattle.tt_top.proofs.PlainRunLemmas.{made_early, made_failed, made_faulty, made_served, made_wanting}
use Rattle.tt_top.proofs.OpeningLemmas.{some_line}
use Rattle.tt_top.proofs.plain_run.run_demo.Goals as goal

pub returns-in_err-session-clause-wanting : goal.returns-in_err-session-clause-wanting
returns-in_err-session-clause-wanting g c = λ is.
    made_early _ _ c.args.texts.now.script (opened (make_text c.args.seed c.args.classes) None) c.in_err-session.field-0.0 c.in_err-session.ensures.opens (sym (handed_on _ _ c.from_residual.ensures.1) ∙ is)

pub returns-in_err-session-clause-writes : goal.returns-in_err-session-clause-writes
returns-in_err-session-clause-writes g c =
    rw (handed_on _ _ c.from_residual.ensures.1)
    (made_failed _ _ c.args.texts.now.script (opened (make_text c.args.seed c.args.classes) None) c.in_err-session.field-0.0 (some_line (make_text c.args.seed c.args.classes) None) c.in_err-session.ensures.opens)

pub returns-in-Err-clause-writes : goal.returns-in-Err-clause-writes
returns-in-Err-clause-writes g c = made_faulty _ _ c.args.texts.now.script (opened (make_text c.args.seed c.args.classes) None) c.in-Err.fault (rw c.in-Err.is at c.in_ok-session.ensures.opens)

pub returns-in-Ok-clause-writes : goal.returns-in-Ok-clause-writes
returns-in-Ok-clause-writes g c =
    rw c.served.ensures
    (made_served _ (g.S.Sink.written c.begin_made.new.out) _ c.args.texts.now.script (opened (make_text c.args.seed c.args.classes) None) c.in-Ok.session c.serve_demo.result (rw c.in-Ok.is at c.in_ok-session.ensures.opens) c.serve_demo.ensures.serves)

pub returns-in-Ok-clause-wanting : goal.returns-in-Ok-clause-wanting
returns-in-Ok-clause-wanting g c = λ is.
    made_wanting _ (g.S.Sink.written c.begin_made.new.out) _ c.args.texts.now.script (opened (make_text c.args.seed c.args.classes) None) c.in-Ok.session c.serve_demo.result (rw c.in-Ok.is at c.in_ok-session.ensures.opens) c.serve_demo.ensures.serves (sym c.served.ensures ∙ is)

pub returns-in-Ok-clause-cause : goal.returns-in-Ok-clause-cause
returns-in-Ok-clause-cause g c =
    rw c.served.ensures (served_cause _ _ _ c.serve_demo.result (cause_after _ _ _ _ _ _ c.in_ok-session.ensures.cause c.serve_demo.ensures.cause))
