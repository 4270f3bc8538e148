use Rattle.std.proofs.Common.{◌≡◌, true, false, [], ◌∷◌, Option, Some, None, refl, ap, sym, ◌∙◌, subst}
use Rattle.std.specs.Prelude.{◌||◌, IfOk, is_some}
use Rattle.std.proofs.lemmas.Bool.{or_from, or_left, or_right}
use Rattle.tt_state.specs.History.{Contents, trail, with_taken}
use Rattle.tt_state.specs.Snapshots.{Snapshot, with_value}
use Rattle.tt_state.specs.Values.{blocked_of, conflict_set_of}
use Rattle.tt_deluge.specs.ClassRounds.{moved_by_conflict_set, has_value, moved_to_value}
use Rattle.tt_deluge.specs.Standing.{IsClassRound}
use Rattle.tt_deluge.specs.Pieces.{made_within}
use Rattle.tt_deluge.proofs.RoundLemmas.{among-many, moved-among, moved-none, round-left}
use Rattle.tt_deluge.proofs.classes.move_to_value.Goals as goal
use Rattle.tt_deluge.proofs.classes.move_to_value.Goals.{then-has_value-via-then-has_value, then-has_value-via-else-has_value+then-is_some}

pub returns-then-has_value-clause-round : goal.returns-then-has_value-clause-round
returns-then-has_value-clause-round c =
    let h = c.args.state.now in
    let p = h.problem in
    let s = h.present in
    let class = c.args.class in
    let v = c.args.value in
    let bad : (has_value s class v || is_some (blocked_of p s.closures class v)) ≡ true =
    elim c.then-has_value.branch [
      | then-has_value-via-then-has_value w ↦ or_left (has_value s class v) (is_some (blocked_of p s.closures class v)) (sym c.has_value.ensures ∙ w.if-has_value.true)
      | then-has_value-via-else-has_value+then-is_some w ↦ or_right (has_value s class v) (is_some (blocked_of p s.closures class v)) (cc (rw (c.placement-placement.ensures.class, c.placement-placement.ensures.value) at w.blocked.ensures, w.is_some.ensures, w.if-is_some.true))
    ] in
    round-left c.args.level (moved_to_value p s class v) (with_taken h []) (with_taken h []) (ap (made_within p c.args.level) (moved-none p s class v bad)) refl refl

pub returns-then-not-find_conflict_set_within-clause-round : goal.returns-then-not-find_conflict_set_within-clause-round
returns-then-not-find_conflict_set_within-clause-round c =
    let h = c.args.state.now in
    let p = h.problem in
    let s = h.present in
    let class = c.args.class in
    let v = c.args.value in
    let had : has_value s class v ≡ false = sym c.has_value.ensures ∙ c.if-has_value.false in
    let blocked : is_some (blocked_of p s.closures class v) ≡ false = cc (rw (c.placement-placement.ensures.class, c.placement-placement.ensures.value) at c.blocked.ensures, c.is_some.ensures, c.if-is_some.false) in
    let good : (has_value s class v || is_some (blocked_of p s.closures class v)) ≡ false = or_from (has_value s class v) (is_some (blocked_of p s.closures class v)) had blocked in
    let found : moved_to_value p s class v ≡ None = moved-among p s class v (conflict_set_of p s class v) good refl ∙ among-many p s class v (conflict_set_of p s class v) (sym (rw (c.placement-placement.ensures.class, c.placement-placement.ensures.value) at c.find_conflict_set_within.ensures.few) ∙ c.if-not-find_conflict_set_within.true) in
    let same : c.find_conflict_set_within.new.self ≡ with_taken h [] = c.find_conflict_set_within.ensures.many c.if-not-find_conflict_set_within.true in
    round-left c.args.level (moved_to_value p s class v) (with_taken h []) (with_taken c.find_conflict_set_within.new.self []) (ap (made_within p c.args.level) found) (ap (λ (x : Contents). x.present) same) (ap trail same)

pub returns-in-None-clause-round : goal.returns-in-None-clause-round
returns-in-None-clause-round c =
    let h = c.args.state.now in
    let p = h.problem in
    let s = h.present in
    let class = c.args.class in
    let v = c.args.value in
    let had : has_value s class v ≡ false = sym c.has_value.ensures ∙ c.if-has_value.false in
    let blocked : is_some (blocked_of p s.closures class v) ≡ false = cc (rw (c.placement-placement.ensures.class, c.placement-placement.ensures.value) at c.blocked.ensures, c.is_some.ensures, c.if-is_some.false) in
    let good : (has_value s class v || is_some (blocked_of p s.closures class v)) ≡ false = or_from (has_value s class v) (is_some (blocked_of p s.closures class v)) had blocked in
    let now : c.find_conflict_set_within.new.self ≡ with_taken h (conflict_set_of p s class v) = rw (c.placement-placement.ensures.class, c.placement-placement.ensures.value) at (c.find_conflict_set_within.ensures.found c.if-not-find_conflict_set_within.false) in
    let none : conflict_set_of p s class v ≡ [] = sym (ap (λ (x : Contents). x.taken) now) ∙ c.in-None.ensures.none in
    let found : moved_to_value p s class v ≡ Some (with_value s class (Some v)) = moved-among p s class v [] good none in
    let Round : Contents → Type 0 = λ (x : Contents). IfOk c.move_within.result (IsClassRound c.args.level (Some (with_value x.present class (Some v))) (with_taken x []) (with_taken c.move_within.new.state [])) in
    subst (λ (o : Option Snapshot). IfOk c.move_within.result (IsClassRound c.args.level o (with_taken h []) (with_taken c.move_within.new.state []))) (sym found) (subst Round now (rw (c.placement-placement.ensures.class, c.placement-placement.ensures.value) at c.move_within.ensures.round))

pub returns-in-Some-clause-round : goal.returns-in-Some-clause-round
returns-in-Some-clause-round c =
    let h = c.args.state.now in
    let p = h.problem in
    let s = h.present in
    let class = c.args.class in
    let v = c.args.value in
    let other = c.in-Some.other in
    let had : has_value s class v ≡ false = sym c.has_value.ensures ∙ c.if-has_value.false in
    let blocked : is_some (blocked_of p s.closures class v) ≡ false = cc (rw (c.placement-placement.ensures.class, c.placement-placement.ensures.value) at c.blocked.ensures, c.is_some.ensures, c.if-is_some.false) in
    let good : (has_value s class v || is_some (blocked_of p s.closures class v)) ≡ false = or_from (has_value s class v) (is_some (blocked_of p s.closures class v)) had blocked in
    let now : c.find_conflict_set_within.new.self ≡ with_taken h (conflict_set_of p s class v) = rw (c.placement-placement.ensures.class, c.placement-placement.ensures.value) at (c.find_conflict_set_within.ensures.found c.if-not-find_conflict_set_within.false) in
    let one : conflict_set_of p s class v ≡ other ∷ [] = sym (ap (λ (x : Contents). x.taken) now) ∙ c.in-Some.ensures.one in
    let found : moved_to_value p s class v ≡ moved_by_conflict_set p s class v (other ∷ []) = moved-among p s class v (other ∷ []) good one in
    let Round : Contents → Type 0 = λ (x : Contents). IfOk c.exchange.result (IsClassRound c.args.level (moved_by_conflict_set x.problem x.present class v (other ∷ [])) (with_taken x []) (with_taken c.exchange.new.state [])) in
    subst (λ (o : Option Snapshot). IfOk c.exchange.result (IsClassRound c.args.level o (with_taken h []) (with_taken c.exchange.new.state []))) (sym found) (subst Round now (rw (c.placement-placement.ensures.class, c.placement-placement.ensures.value) at c.exchange.ensures.round))
