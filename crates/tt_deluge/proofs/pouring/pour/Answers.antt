use Rattle.std.proofs.Common.{◌≡◌, ℕ, ◌+◌, ◌-◌, ◌≤◌, Bool, true, false, cond, List, [], Some, None, refl, ap, sym, ◌∙◌, subst, arith}
use mir.Val.{bool_byte}
use Rattle.tt_problem.specs.declared.parts.Parts.{Parts}
use Rattle.tt_state.specs.History.{trail, with_taken}
use Rattle.tt_state.specs.Snapshots.{Snapshot}
use Rattle.tt_state.proofs.StepLemmas.{within_next, within_same}
use Rattle.tt_draw.proofs.WordLemmas.{random_from}
use Rattle.rand_core.specs.Stream.{Stream}
use Rattle.tt_improve.specs.Classes.{total_of}
use Rattle.tt_deluge.specs.Deluged.{best_moment, found_by, moments_after}
use Rattle.tt_deluge.specs.Pouring.{IsMomentOf, IsPouring, moment_of}
use Rattle.tt_deluge.specs.Reading.{random_of}
use Rattle.tt_deluge.specs.Standing.{StandsAs}
use Rattle.tt_deluge.specs.Pieces.{DelugeMoment, first_moment, level_at, made_within}
use Rattle.tt_deluge.proofs.ChangeLemmas.{stands-next, stands-same}
use Rattle.tt_deluge.proofs.PourLemmas.{last-moments, next-moments, pour-on, pour-start, round-leads}
use Rattle.tt_deluge.proofs.pouring.pour.Goals as goal

pub loop-made-init : goal.loop-made-init
loop-made-init g c =
    let start = c.args.state.now in
    let kept = c.moment_now-start.result in
    let changed = c.moment_now-start.ensures.changed in
    let moment = c.moment_now-start.ensures.moment in
    let random = random_from c.args.seed c.new-random.result c.new-random.ensures in
    let begins : moment_of start.present 0 0 (random_of c.new-random.result) ≡ first_moment c.args.seed start.present = ap (λ (w : Stream). moment_of start.present 0 0 w) random in
    record {
      step = within_same (with_taken start []);
      targets = refl;
      few = omega (arith, changed);
      moment = moment;
      still = λ none. refl;
      stands = stands-same start.problem start.present;
      way = pour-start start.problem c.args.rounds c.args.seed kept.total start.present (trail start) (random_of c.new-random.result) kept moment.total moment changed begins;
    }

byte_is : (b : Bool) → bool_byte b ≡ cond b 1 0
byte_is true = refl
byte_is false = refl

byte_small : (b : Bool) → cond b 1 0 ≤ 1
byte_small true = omega arith
byte_small false = omega arith

still_next : (s t u : Snapshot) (b : Bool) (n kept : ℕ) → kept ≡ n + cond b 1 0 → (b ≡ false → u ≡ t) → (n ≡ 0 → t ≡ s) → kept ≡ 0 → u ≡ s
still_next s t u true n kept is same still none = absurd (omega (arith, is, none))
still_next s t u false n kept is same still none = same refl ∙ still (omega (arith, is, none))

pub loop-made-preserved : goal.loop-made-preserved
loop-made-preserved g c =
    let start = c.args.state.now in
    let p = start.problem in
    let s = start.present in
    let before = c.loop-made.state in
    let after = c.make_round.new.state in
    let inv = c.loop-made.invariant in
    let done = c.in_ok-changes.ensures in
    let changes = c.in_ok-changes.changes in
    let first = c.moment_now-start.result.total in
    let i = c.loop-made.made in
    let rounds = c.args.rounds in
    let level = c.level_at-level.result in
    let random = random_of c.loop-made.random in
    let left = random_of c.make_round.new.random in
    let kept = c.moment_now-now.result in
    let problem : before.problem ≡ p = inv.step.problem in
    let targets : c.loop-made.work.targets ≡ c.args.work.now.targets = inv.targets in
    let change : made_within p level (found_by p before.present random).0 ≡ cond changes (Some after.present) None =
    subst (λ (q : Parts). made_within q level (found_by q before.present random).0 ≡ cond changes (Some after.present) None) problem done.round.change in
    let random_is : left ≡ (found_by p before.present random).1 = subst (λ (q : Parts). left ≡ (found_by q before.present random).1) problem done.random in
    let stands : StandsAs p before.present after.present = subst (λ (q : Parts). StandsAs q before.present after.present) problem done.round.stands in
    let counted : c.from.result ≡ cond changes 1 0 = c.from.ensures ∙ byte_is changes in
    let changed_now : kept.changed ≡ c.loop-made.now.changed + cond changes 1 0 = c.moment_now-now.ensures.changed ∙ ap (λ (n : ℕ). c.loop-made.now.changed + n) counted in
    let level_is : level ≡ level_at first rounds i (total_of p before.present) = c.level_at-level.ensures ∙ ap (level_at first rounds i) inv.moment.total in
    let leads = round-leads p first rounds i before.present after.present c.loop-made.now.changed level random left changes level_is change done.round.same random_is in
    let next = leads ∙ ap (λ (n : ℕ). moment_of after.present (i + 1) n left) (sym changed_now) in
    let ahead = next-moments p first rounds i (moment_of before.present i c.loop-made.now.changed random) (moment_of after.present (i + 1) kept.changed left) c.loop-made-test.true next in
    let end = best_moment p rounds c.args.seed s in
    let way = subst (λ (l : List DelugeMoment). IsPouring p s (trail before) l c.loop-made.best end) ahead inv.way in
    let moment : IsMomentOf p after.present (trail after) kept = subst (λ (q : Parts). IsMomentOf q after.present (trail after) kept) (done.step.problem ∙ problem) c.moment_now-now.ensures.moment in
    let still = still_next s before.present after.present changes c.loop-made.now.changed kept.changed changed_now done.round.same inv.still in
    let all = stands-next p s before.present after.present inv.stands stands in
    record {
      step = within_next _ _ _ inv.step done.step;
      targets = done.targets ∙ targets;
      few = omega (arith, inv.few, changed_now, byte_small changes);
      moment = moment;
      still = still;
      stands = all;
      way = rw c.lower_moment-best.ensures (pour-on p s after.present (trail before) (trail after) (moments_after p first rounds (rounds - (i + 1)) (moment_of after.present (i + 1) kept.changed left)) c.loop-made.best kept (i + 1) left end way done.round.front moment all still);
    }

pub returns-clause-way : goal.returns-clause-way
returns-clause-way g c =
    let start = c.args.state.now in
    let p = start.problem in
    let first = c.moment_now-start.result.total in
    let none = last-moments p first c.args.rounds c.loop-made.made (moment_of c.loop-made.state.present c.loop-made.made c.loop-made.now.changed (random_of c.loop-made.random)) c.loop-made-test.false in
    subst (λ (l : List DelugeMoment). IsPouring p start.present (trail c.loop-made.state) l c.loop-made.best (best_moment p c.args.rounds c.args.seed start.present)) none c.loop-made.invariant.way
