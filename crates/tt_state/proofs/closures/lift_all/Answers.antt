use Rattle.std.proofs.Common.{◌∙◌, ◌<◌, ℕ, Bool, cond, List, ◌∷◌, length, ap, sym, arith}
use Rattle.tt_bits.specs.declared.times.Closure.{Closure}
use Rattle.tt_journal.specs.declared.Entry.{Entry}
use Rattle.tt_journal.specs.declared.Entry.TheVariants.{Lifted}
use Rattle.tt_score.specs.Fits.{closures_of}
use Rattle.tt_state.specs.Snapshots.{is_open_in}
use Rattle.tt_state.proofs.ClosureLemmas.{counted_next, entries_next, next_lifted, next_seen, next_stays}
use Rattle.tt_state.proofs.closures.lift_all.Goals.{then-is_open_in, else-is_open_in}
use Rattle.tt_state.proofs.closures.lift_all.Goals as goal

pub note-requires-clause-spare : goal.note-requires-clause-spare
note-requires-clause-spare c =
    let cs = closures_of c.args.score.now in
    let i = c.loop-at.at in
    let lt : i < length cs = omega (arith, c.len-at-end.ensures.count, ap (λ (l : List Closure). length l) c.closures.ensures) in
    let next = next_seen c.args.room cs (closures_of c.loop-at.score) c.closures-in-loop-at.result.now i c.at.result c.loop-at.invariant.lifted c.closures-in-loop-at.ensures c.at.ensures lt in
    let more = counted_next (is_open_in c.args.room) cs i c.at.result next.left in
    let one = ap {B = ℕ} (λ (b : Bool). cond b 1 0) (sym c.is_open_in.ensures ∙ c.if-is_open_in.true) in
    omega (arith, more, one, c.loop-at.invariant.spare)

pub loop-at-preserved : goal.loop-at-preserved
loop-at-preserved c =
    let cs = closures_of c.args.score.now in
    let room = c.args.room in
    let i = c.loop-at.at in
    let closure = c.at.result in
    let es = c.loop-at.past.list in
    let now = closures_of c.loop-at.score in
    let lifted = c.loop-at.invariant.lifted in
    let lt : i < length cs = omega (arith, c.len-at-end.ensures.count, ap (λ (l : List Closure). length l) c.closures.ensures) in
    let next = next_seen room cs now c.closures-in-loop-at.result.now i closure lifted c.closures-in-loop-at.ensures c.at.ensures lt in
    let more = counted_next (is_open_in room) cs i closure next.left in
    elim c.if-is_open_in.branch [
      | then-is_open_in w ↦
          let open_one = sym c.is_open_in.ensures ∙ w.if-is_open_in.true in
          let one = ap {B = ℕ} (λ (b : Bool). cond b 1 0) open_one in
          let noted = w.note.ensures.list ∙ sym (ap {B = List Entry} (λ (b : Bool). cond b (Lifted i ∷ es) es) open_one) in
          rw (w.score-is, w.past-is) (record {
            fits = w.lift.ensures.fits;
            planned = w.lift.ensures.plan ∙ c.loop-at.invariant.planned;
            lists = w.lift.ensures.lists ∙ c.loop-at.invariant.lists;
            lifted = w.lift.ensures.closures ∙ next_lifted room cs now i lifted closure next open_one;
            spare = omega (arith, more, one, c.loop-at.invariant.spare, w.note.ensures.spare);
            entries = entries_next room i cs closure es w.note.new.self.list next.left noted ∙ c.loop-at.invariant.entries;
          })
      | else-is_open_in w ↦
          let none = sym c.is_open_in.ensures ∙ w.if-is_open_in.false in
          let zero_is = ap {B = ℕ} (λ (b : Bool). cond b 1 0) none in
          let noted = sym (ap {B = List Entry} (λ (b : Bool). cond b (Lifted i ∷ es) es) none) in
          rw (w.score-is, w.past-is) (record {
            fits = c.loop-at.invariant.fits;
            planned = c.loop-at.invariant.planned;
            lists = c.loop-at.invariant.lists;
            lifted = next_stays room cs now i lifted closure next none;
            spare = omega (arith, more, zero_is, c.loop-at.invariant.spare);
            entries = entries_next room i cs closure es es next.left noted ∙ c.loop-at.invariant.entries;
          })
    ]
