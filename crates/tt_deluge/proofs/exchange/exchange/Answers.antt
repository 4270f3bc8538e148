use Rattle.std.proofs.Common.{◌≡◌, true, false, Some, None, Option, Bool, [], ◌∷◌, ap, sym, ◌∙◌, subst, le-leb, cond}
use Rattle.std.specs.Prelude.{◌&&◌, is_some, nat_le, not, slice_get}
use Rattle.std.proofs.lemmas.Bool.{and_from, and_parts, lt-leb, not_from_false}
use Rattle.tt_problem.specs.declared.parts.Parts.{Parts}
use Rattle.tt_problem.specs.Valid.{IsValid}
use Rattle.tt_state.specs.History.{trail, with_taken}
use Rattle.tt_state.specs.Snapshots.{Snapshot, is_locked_in, value_in, with_value}
use Rattle.tt_improve.specs.Classes.{is_free, total_of}
use Rattle.tt_improve.specs.Standing.{IsMovable}
use Rattle.tt_deluge.specs.ClassRounds.{moved_by_conflict_set, exchange_value, has_value}
use Rattle.tt_deluge.specs.Standing.{IsClassRound}
use Rattle.tt_deluge.specs.Pieces.{half_exchanged, made_within}
use Rattle.tt_deluge.proofs.ChangeLemmas.{stands-exchanged}
use Rattle.tt_deluge.proofs.FrontLemmas.{front-back, front-get}
use Rattle.tt_deluge.proofs.RoundLemmas.{change-left, exchange-found, round-left, round-made}
use Rattle.tt_deluge.proofs.SpotLemmas.{exchange-placed}
use Rattle.tt_deluge.proofs.exchange.exchange.Goals as goal
use Rattle.tt_deluge.proofs.exchange.exchange.Goals.{else-branch-via-then-branch+else-totals-level, else-branch-via-else-branch}

pub returns-then-totals-level-clause-round : goal.returns-then-totals-level-clause-round
returns-then-totals-level-clause-round c =
    let h = c.args.state.now in
    let p = h.problem in
    let s = h.present in
    let class = c.args.placement.now.class in
    let v = c.args.placement.now.value in
    let other = c.args.other in
    let to = c.in-Some.value in
    let st = c.exchange_steps.new.state in
    let end : Snapshot = with_value (half_exchanged s class v other) other (Some to) in
    let open_one : is_locked_in s other ≡ false = sym c.is_locked.ensures ∙ c.if-is_locked.false in
    let to_is : exchange_value p s class other ≡ Some to = sym c.exchange_value.ensures.value ∙ c.in-Some.is in
    let apart : has_value s other to ≡ false = sym c.has_value.ensures ∙ c.if-has_value.false in
    let free = rw (c.placement-to.ensures.class, c.placement-to.ensures.value) at c.in_ok-exchange_steps.ensures.free in
    let both : (is_free p (with_value s other None) class v && is_free p (half_exchanged s class v other) other to) ≡ true = sym free ∙ c.if-branch.true in
    let frees = and_parts (is_free p (with_value s other None) class v) (is_free p (half_exchanged s class v other) other to) both in
    let found : moved_by_conflict_set p s class v (other ∷ []) ≡ Some end = exchange-found p s class v other to true open_one to_is apart (sym both) in
    let present : st.present ≡ end = rw (c.placement-to.ensures.class, c.placement-to.ensures.value) at (c.in_ok-exchange_steps.ensures.present c.if-branch.true) in
    let problem : st.problem ≡ p = c.in_ok-exchange_steps.ensures.step.problem in
    let total : c.totals.result.total ≡ total_of p end = ap (λ t. t.total) c.totals.ensures ∙ ap (λ (q : Parts). total_of q st.present) problem ∙ ap (total_of p) present in
    let low : nat_le (total_of p end) c.args.level ≡ true = rw total at (le-leb c.totals.result.total c.args.level c.if-totals-level.true) in
    let valid : IsValid p = subst IsValid c.problem.ensures c.validity.ensures in
    let target : IsMovable p s other = record {
      within = c.requires.other;
      free = and_from (is_some (value_in s other)) (not (is_locked_in s other)) (exchange-placed p s class other to to_is) (not_from_false (is_locked_in s other) open_one);
    } in
    let stands = stands-exchanged p s class v other to valid c.soundness.ensures.present.plan.whole c.requires.class target c.requires.placement.value (rw c.in-Some.is at c.exchange_value.ensures.domain) frees.0 frees.1 in
    subst (λ (o : Option Snapshot). IsClassRound c.args.level o (with_taken h []) (with_taken st []) true) (sym found)
    (round-made c.args.level end (with_taken h []) (with_taken st []) low present c.in_ok-exchange_steps.ensures.trail stands)

pub returns-clause-round : goal.returns-clause-round
returns-clause-round c =
    let h = c.args.state.now in
    let p = h.problem in
    let s = h.present in
    let class = c.args.placement.now.class in
    let v = c.args.placement.now.value in
    let other = c.args.other in
    let to = c.in-Some.value in
    let st = c.exchange_steps.new.state in
    let back = c.roll_back.new.self in
    let end : Snapshot = with_value (half_exchanged s class v other) other (Some to) in
    let open_one : is_locked_in s other ≡ false = sym c.is_locked.ensures ∙ c.if-is_locked.false in
    let to_is : exchange_value p s class other ≡ Some to = sym c.exchange_value.ensures.value ∙ c.in-Some.is in
    let apart : has_value s other to ≡ false = sym c.has_value.ensures ∙ c.if-has_value.false in
    let b = c.in_ok-exchange_steps.field-0 in
    let found : moved_by_conflict_set p s class v (other ∷ []) ≡ cond b (Some end) None = exchange-found p s class v other to b open_one to_is apart (rw (c.placement-to.ensures.class, c.placement-to.ensures.value) at c.in_ok-exchange_steps.ensures.free) in
    let problem : st.problem ≡ p = c.in_ok-exchange_steps.ensures.step.problem in
    let begins = c.in_ok-exchange_steps.ensures.trail in
    let there : slice_get (trail st) c.mark_now-moment.result ≡ Some s = front-get (trail h) (trail st) c.mark_now-moment.result s begins c.mark_now-moment.ensures.present in
    let both : Some back.present ≡ Some s = sym c.roll_back.ensures.present ∙ there in
    let present : back.present ≡ s = cc both in
    let same : trail back ≡ trail h = c.roll_back.ensures.trail ∙ front-back (trail h) (trail st) c.mark_now-moment.result begins c.mark_now-moment.ensures.last in
    let change : made_within p c.args.level (moved_by_conflict_set p s class v (other ∷ [])) ≡ None =
    elim c.else-branch.branch [
      | else-branch-via-then-branch+else-totals-level w ↦
          let now : st.present ≡ end = rw (c.placement-to.ensures.class, c.placement-to.ensures.value) at (c.in_ok-exchange_steps.ensures.present w.if-branch.true) in
          let total : w.totals.result.total ≡ total_of p end = ap (λ t. t.total) w.totals.ensures ∙ ap (λ (q : Parts). total_of q st.present) problem ∙ ap (total_of p) now in
          let high : nat_le (total_of p end) c.args.level ≡ false = rw total at (lt-leb w.totals.result.total c.args.level w.if-totals-level.false) in
          ap (made_within p c.args.level) (found ∙ ap (λ (b : Bool). cond b (Some end) None) w.if-branch.true) ∙ change-left p c.args.level end high
      | else-branch-via-else-branch w ↦
          ap (made_within p c.args.level) (found ∙ ap (λ (b : Bool). cond b (Some end) None) w.if-branch.false)
    ] in
    round-left c.args.level (moved_by_conflict_set p s class v (other ∷ [])) (with_taken h []) (with_taken back []) change present same
