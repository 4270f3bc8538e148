use Rattle.std.proofs.Common.{◌≡◌, Some, None, ap, sym, ◌∙◌}
use Rattle.tt_problem.specs.declared.parts.Parts.{Parts}
use Rattle.tt_deluge.specs.ClassRounds.{value_at_time}
use Rattle.tt_deluge.proofs.SpotLemmas.{exchange-by, exchange-no-at, exchange-no-had}
use Rattle.tt_deluge.proofs.exchange.exchange_value.Goals as goal

pub returns-in_err-at-clause-value : goal.returns-in_err-at-clause-value
returns-in_err-at-clause-value c =
    let h = c.args.state.now in
    let was : c.spot_now.result ≡ None = c.in_err-at.was in
    c.from_residual.ensures ∙ sym (exchange-no-at h.problem h.present c.args.class c.args.other (sym c.spot_now.ensures ∙ was))

pub returns-in_err-had-clause-value : goal.returns-in_err-had-clause-value
returns-in_err-had-clause-value c =
    let h = c.args.state.now in
    let at : c.spot_now.result ≡ Some c.in_ok-at.at = c.in_ok-at.was in
    let was : c.spot_now-2.result ≡ None = c.in_err-had.was in
    c.from_residual-in_err-had.ensures ∙ sym (exchange-no-had h.problem h.present c.args.class c.args.other c.in_ok-at.at (sym c.spot_now.ensures ∙ at) (sym c.spot_now-2.ensures ∙ was))

pub returns-in-Some-clause-value : goal.returns-in-Some-clause-value
returns-in-Some-clause-value c =
    let h = c.args.state.now in
    let at : c.spot_now.result ≡ Some c.in_ok-at.at = c.in_ok-at.was in
    let had : c.spot_now-2.result ≡ Some c.in_ok-had.had = c.in_ok-had.was in
    let first : value_at_time h.problem c.args.other c.in_ok-at.at.time c.in_ok-at.at.room ≡ Some c.in-Some.value =
    ap (λ (q : Parts). value_at_time q c.args.other c.in_ok-at.at.time c.in_ok-at.at.room) (sym c.problem.ensures) ∙ sym c.value_at_time.ensures.value ∙ c.in-Some.is in
    sym (exchange-by h.problem h.present c.args.class c.args.other c.in_ok-at.at c.in_ok-had.had (Some c.in-Some.value) (sym c.spot_now.ensures ∙ at) (sym c.spot_now-2.ensures ∙ had) first)

pub returns-in-None-clause-value : goal.returns-in-None-clause-value
returns-in-None-clause-value c =
    let h = c.args.state.now in
    let at : c.spot_now.result ≡ Some c.in_ok-at.at = c.in_ok-at.was in
    let had : c.spot_now-2.result ≡ Some c.in_ok-had.had = c.in_ok-had.was in
    let first : value_at_time h.problem c.args.other c.in_ok-at.at.time c.in_ok-at.at.room ≡ None =
    ap (λ (q : Parts). value_at_time q c.args.other c.in_ok-at.at.time c.in_ok-at.at.room) (sym c.problem.ensures) ∙ sym c.value_at_time.ensures.value ∙ c.in-None.is in
    c.value_at_time-in-None.ensures.value
    ∙ ap (λ (q : Parts). value_at_time q c.args.other c.in_ok-at.at.time c.in_ok-had.had.room) c.problem-in-None.ensures
    ∙ sym (exchange-by h.problem h.present c.args.class c.args.other c.in_ok-at.at c.in_ok-had.had None (sym c.spot_now.ensures ∙ at) (sym c.spot_now-2.ensures ∙ had) first)
