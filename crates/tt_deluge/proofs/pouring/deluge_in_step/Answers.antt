use Rattle.std.proofs.Common.{◌≡◌, ◌≤◌, true, false, [], ap, sym, ◌∙◌, subst}
use Rattle.std.specs.Prelude.{◌↔◌}
use Rattle.std.proofs.lemmas.Option.{slice_get_within}
use Rattle.tt_problem.specs.declared.parts.Parts.{Parts}
use Rattle.tt_state.specs.Desk.{Desk}
use Rattle.tt_state.specs.History.{trail}
use Rattle.tt_state.specs.Snapshots.{Snapshot}
use Rattle.tt_improve.specs.Classes.{total_of}
use Rattle.tt_deluge.specs.Deluged.{best_moment}
use Rattle.tt_deluge.specs.Pouring.{IsPouring}
use Rattle.tt_deluge.specs.Standing.{StandsAs}
use Rattle.tt_deluge.specs.UnderWay.{ended_at}
use Rattle.tt_deluge.specs.Pieces.{are_none, targets_at}
use Rattle.tt_deluge.proofs.PourLemmas.{deluged-end, deluged-none, fallen-changed, fallen-total, pour-end}
use Rattle.tt_deluge.proofs.pouring.deluge_in_step.Goals as goal

pub returns-then-are_none-clause-end : goal.returns-then-are_none-clause-end
returns-then-are_none-clause-end g c =
    let h = c.args.state.now in
    let present : c.begin.new.self.present ≡ h.present = ap (λ (d : Desk). d.present) c.in_ok-begin.ensures.desk in
    let none : are_none (targets_at h.problem h.present) ≡ true = ap are_none (sym c.in_ok-work.ensures.targets) ∙ sym c.are_none.ensures ∙ c.if-are_none.true in
    ap (λ (t : Snapshot). ended_at t 0 0) present ∙ deluged-none h.problem c.args.rounds c.args.seed h.present none

pub roll_back-requires : goal.roll_back-requires
roll_back-requires g c =
    let way = c.in-Ok.ensures.way in
    slice_get_within (trail c.pour.new.state) c.in-Ok.best.place way.now way.moment.at

pub returns-in-Ok-clause-end : goal.returns-in-Ok-clause-end
returns-in-Ok-clause-end g c =
    let h = c.args.state.now in
    let begun = c.begin.new.self in
    let st = c.pour.new.state in
    let best = c.in-Ok.best in
    let problem : begun.problem ≡ h.problem = ap (λ (d : Desk). d.problem) c.in_ok-begin.ensures.desk in
    let present : begun.present ≡ h.present = ap (λ (d : Desk). d.present) c.in_ok-begin.ensures.desk in
    let Way : Parts → Snapshot → Type 0 = λ (q : Parts) (t : Snapshot). IsPouring q t (trail st) [] best (best_moment q c.args.rounds c.args.seed t) in
    let way = subst (Way h.problem) present (subst (λ (q : Parts). Way q begun.present) problem c.in-Ok.ensures.way) in
    let same = pour-end h.problem h.present c.roll_back.new.self.present (trail st) best (best_moment h.problem c.args.rounds c.args.seed h.present) way c.roll_back.ensures.present in
    let some : are_none (targets_at h.problem h.present) ≡ false = ap are_none (sym c.in_ok-work.ensures.targets) ∙ sym c.are_none.ensures ∙ c.if-are_none.false in
    deluged-end h.problem c.args.rounds c.args.seed h.present c.roll_back.new.self.present (trail st) best way same some

pub returns-in-Ok-clause-total : goal.returns-in-Ok-clause-total
returns-in-Ok-clause-total g c =
    let h = c.args.state.now in
    let begun = c.begin.new.self in
    let st = c.pour.new.state in
    let best = c.in-Ok.best in
    let problem : begun.problem ≡ h.problem = ap (λ (d : Desk). d.problem) c.in_ok-begin.ensures.desk in
    let present : begun.present ≡ h.present = ap (λ (d : Desk). d.present) c.in_ok-begin.ensures.desk in
    let Way : Parts → Snapshot → Type 0 = λ (q : Parts) (t : Snapshot). IsPouring q t (trail st) [] best (best_moment q c.args.rounds c.args.seed t) in
    let way = subst (Way h.problem) present (subst (λ (q : Parts). Way q begun.present) problem c.in-Ok.ensures.way) in
    let same = pour-end h.problem h.present c.roll_back.new.self.present (trail st) best (best_moment h.problem c.args.rounds c.args.seed h.present) way c.roll_back.ensures.present in
    subst (λ (t : Snapshot). total_of h.problem t ≤ total_of h.problem h.present) (sym same) (fallen-total h.problem h.present way.now best.changed way.fallen)

pub returns-in-Ok-clause-changed : goal.returns-in-Ok-clause-changed
returns-in-Ok-clause-changed g c =
    let h = c.args.state.now in
    let begun = c.begin.new.self in
    let st = c.pour.new.state in
    let best = c.in-Ok.best in
    let problem : begun.problem ≡ h.problem = ap (λ (d : Desk). d.problem) c.in_ok-begin.ensures.desk in
    let present : begun.present ≡ h.present = ap (λ (d : Desk). d.present) c.in_ok-begin.ensures.desk in
    let Way : Parts → Snapshot → Type 0 = λ (q : Parts) (t : Snapshot). IsPouring q t (trail st) [] best (best_moment q c.args.rounds c.args.seed t) in
    let way = subst (Way h.problem) present (subst (λ (q : Parts). Way q begun.present) problem c.in-Ok.ensures.way) in
    let same = pour-end h.problem h.present c.roll_back.new.self.present (trail st) best (best_moment h.problem c.args.rounds c.args.seed h.present) way c.roll_back.ensures.present in
    subst (λ (t : Snapshot). (best.changed ≡ 0) ↔ (t ≡ h.present)) (sym same) (fallen-changed h.problem h.present way.now best.changed way.fallen)

pub returns-in-Ok-clause-stands : goal.returns-in-Ok-clause-stands
returns-in-Ok-clause-stands g c =
    let h = c.args.state.now in
    let begun = c.begin.new.self in
    let st = c.pour.new.state in
    let best = c.in-Ok.best in
    let problem : begun.problem ≡ h.problem = ap (λ (d : Desk). d.problem) c.in_ok-begin.ensures.desk in
    let present : begun.present ≡ h.present = ap (λ (d : Desk). d.present) c.in_ok-begin.ensures.desk in
    let Way : Parts → Snapshot → Type 0 = λ (q : Parts) (t : Snapshot). IsPouring q t (trail st) [] best (best_moment q c.args.rounds c.args.seed t) in
    let way = subst (Way h.problem) present (subst (λ (q : Parts). Way q begun.present) problem c.in-Ok.ensures.way) in
    let same = pour-end h.problem h.present c.roll_back.new.self.present (trail st) best (best_moment h.problem c.args.rounds c.args.seed h.present) way c.roll_back.ensures.present in
    subst (StandsAs h.problem h.present) (sym same) way.stands
