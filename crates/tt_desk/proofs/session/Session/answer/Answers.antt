use Rattle.std.proofs.Common.{sym, ◌∙◌}
use Rattle.tt_desk.proofs.DeskLemmas.{on_err}
use Rattle.tt_desk.proofs.ReplyLemmas.{cause_replies, err_fact, long_cause}
use Rattle.tt_desk.proofs.session.Session.answer.Goals as goal

pub returns-in_err-outcome-clause-replies : goal.returns-in_err-outcome-clause-replies
returns-in_err-outcome-clause-replies g c =
    on_err _ (cause_replies _ _ c.in_err-outcome.ensures.memory)

pub returns-then-is_err-clause-memory : goal.returns-then-is_err-clause-memory
returns-then-is_err-clause-memory g c =
    let long = err_fact c.finish_reply.result (sym c.is_err.ensures.value ∙ c.if-is_err.true) c.finish_reply.ensures.full in
    long_cause _ _ _ _ _ c.in_ok-outcome.ensures.ok long
