use Rattle.std.proofs.Common.{◌≡◌, ◌∙◌, ◌<◌, ◌≤◌, ◌+◌, List, ℕ, ◌∷◌, true, false, length, ap, sym, arith}
use Rattle.std.specs.List.{filter}
use Rattle.tt_state.specs.Snapshots.{Snapshot, is_locked_in, with_lock, with_locks}
use Rattle.tt_state.specs.History.{noted_by}
use Rattle.tt_state.specs.Kept.{snapshot_of}
use Rattle.tt_state.specs.Turned.{may_turn, lock_entry}
use Rattle.tt_state.proofs.LockLemmas.{from_on, lock_at, lock_stays, lock_turned, locks_at_end, passing_less, passing_more, turned_one, turns_alike, with_locks_to}
use Rattle.tt_state.proofs.StateLemmas.{leads_by, then}
use Rattle.tt_state.proofs.locks.turn_all.Goals.{then-may_turn, else-may_turn}
use Rattle.tt_state.proofs.locks.turn_all.Goals as goal

pub loop-class-preserved : goal.loop-class-preserved
loop-class-preserved c =
    let p = c.args.problem.now in
    let lock = c.args.lock in
    let s = snapshot_of c.args.present.now in
    let n = length s.plan in
    let l = c.loop-class in
    let i = l.class in
    let t = snapshot_of l.present in
    let es = l.past.list in
    let sound = c.requires.stands.sound in
    let count = c.class_count-class-end.ensures.count in
    let lt : i < n = omega (arith, count, sound.plan.whole) in
    let in_locks : i < length s.locks = omega (arith, lt, sound.plan.whole, sound.locks.whole) in
    let here : is_locked_in t i ≡ is_locked_in s i = ap (λ x. is_locked_in x i) l.invariant.now ∙ lock_at p s lock i sound in_locks in
    let alike : may_turn lock t i ≡ may_turn lock s i = turns_alike s t i lock (ap (λ (x : Snapshot). x.plan) l.invariant.now) here in
    let rest = filter (may_turn lock s) (from_on (i + 1) n) in
    elim c.if-may_turn.branch [
      | then-may_turn w ↦
          let may : may_turn lock t i ≡ true = sym c.may_turn.ensures ∙ w.if-may_turn.true in
          let more = passing_more (may_turn lock s) i n lt (sym alike ∙ may) in
          rw (w.present-is, w.past-is) (record {
            score = w.turn.ensures.score ∙ l.invariant.score;
            leads = then p s t (snapshot_of w.turn.new.present) c.args.past.now.list es w.turn.new.past.list l.invariant.leads
                (leads_by p t (with_lock t i lock) (snapshot_of w.turn.new.present) es (lock_entry lock i ∷ es) w.turn.new.past.list (turned_one p t es i lock l.invariant.leads.stands may) w.turn.ensures.now w.turn.ensures.entries);
            now = w.turn.ensures.now ∙ ap (λ x. with_lock x i lock) l.invariant.now ∙ ap (with_locks s) (lock_turned p s lock i sound in_locks (sym alike ∙ may));
            spare = omega (arith, ap (λ (x : List ℕ). length x) more, w.turn.ensures.spare, l.invariant.spare);
            entries = ap (noted_by (lock_entry lock) rest) w.turn.ensures.entries ∙ ap (λ (x : List ℕ). noted_by (lock_entry lock) x es) (sym more) ∙ l.invariant.entries;
          })
      | else-may_turn w ↦
          let stays : may_turn lock t i ≡ false = sym c.may_turn.ensures ∙ w.if-may_turn.false in
          let less = passing_less (may_turn lock s) i n lt (sym alike ∙ stays) in
          rw (w.present-is, w.past-is) (record {
            score = l.invariant.score;
            leads = l.invariant.leads;
            now = l.invariant.now ∙ ap (with_locks s) (lock_stays p s lock i sound in_locks (sym alike ∙ stays));
            spare = omega (arith, ap (λ (x : List ℕ). length x) less, l.invariant.spare);
            entries = ap (λ (x : List ℕ). noted_by (lock_entry lock) x es) (sym less) ∙ l.invariant.entries;
          })
    ]

pub returns-clause-now : goal.returns-clause-now
returns-clause-now c =
    let p = c.args.problem.now in
    let lock = c.args.lock in
    let s = snapshot_of c.args.present.now in
    let sound = c.requires.stands.sound in
    let le : length s.locks ≤ c.loop-class.class = omega (arith, c.loop-class-test.false, c.class_count-class-end.ensures.count, sound.locks.whole) in
    c.loop-class.invariant.now ∙ ap (with_locks s) (locks_at_end p s lock c.loop-class.class sound le) ∙ with_locks_to s lock
