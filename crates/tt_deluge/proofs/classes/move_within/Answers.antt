use Rattle.std.proofs.Common.{◌≡◌, [], ◌∷◌, ◌++◌, Some, ap, ◌∙◌, subst}
use Rattle.std.specs.Prelude.{false, true, nat_le}
use Rattle.tt_problem.specs.Valid.{IsValid}
use Rattle.tt_state.specs.Desk.{Desk}
use Rattle.tt_state.specs.History.{Contents, trail, with_taken}
use Rattle.tt_state.specs.Snapshots.{Snapshot, with_value}
use Rattle.tt_improve.specs.Classes.{total_of}
use Rattle.tt_deluge.proofs.ChangeLemmas.{stands-moved}
use Rattle.tt_deluge.proofs.FrontLemmas.{front-added}
use Rattle.tt_deluge.proofs.RoundLemmas.{change-left, none-tried, round-left, round-made, some-tried, tried-high, tried-low}
use Rattle.tt_deluge.proofs.classes.move_within.Goals as goal

pub returns-then-is_none-clause-round : goal.returns-then-is_none-clause-round
returns-then-is_none-clause-round c =
    let h = c.args.state.now in
    let next : Snapshot = with_value h.present c.args.placement.now.class (Some c.args.placement.now.value) in
    let same : c.trial_below.new.self ≡ h = c.trial_below.ensures.same ∙ c.without-without.ensures.same in
    let total = rw c.without-without.ensures.same at c.trial_below.ensures.total in
    let high : nat_le (total_of h.problem next) c.args.level ≡ false = tried-high h.problem h.present c.args.placement.now.class c.args.placement.now.value c.args.level c.trial_below.result total (none-tried c.trial_below.result c.if-is_none.ensures) in
    round-left c.args.level (Some next) (with_taken h []) (with_taken c.trial_below.new.self []) (change-left h.problem c.args.level next high) (ap (λ (x : Contents). x.present) same) (ap trail same)

pub returns-clause-round : goal.returns-clause-round
returns-clause-round c =
    let h = c.args.state.now in
    let end = c.place_step.new.self in
    let next : Snapshot = with_value h.present c.args.placement.now.class (Some c.args.placement.now.value) in
    let same : c.trial_below.new.self ≡ h = c.trial_below.ensures.same ∙ c.without-without.ensures.same in
    let total = rw c.without-without.ensures.same at c.trial_below.ensures.total in
    let low : nat_le (total_of h.problem next) c.args.level ≡ true = tried-low h.problem h.present c.args.placement.now.class c.args.placement.now.value c.args.level c.trial_below.result total (some-tried c.trial_below.result c.if-is_none.ensures) in
    let present : end.present ≡ next = ap (λ (d : Desk). d.present) c.in_ok-place_step.ensures.desk ∙ ap (λ (x : Contents). with_value x.present c.args.placement.now.class (Some c.args.placement.now.value)) same in
    let added : trail end ≡ trail h ++ end.present ∷ [] = c.in_ok-place_step.ensures.trail ∙ ap (λ (x : Contents). trail x ++ end.present ∷ []) same in
    let valid : IsValid h.problem = subst IsValid c.problem.ensures c.validity.ensures in
    let stands = stands-moved h.problem h.present c.args.placement.now.class c.args.placement.now.value valid c.soundness.ensures.present.plan.whole c.requires.class c.requires.placement.value c.requires.free in
    round-made c.args.level next (with_taken h []) (with_taken end []) low present (front-added (trail h) (end.present ∷ []) (trail end) added) stands
