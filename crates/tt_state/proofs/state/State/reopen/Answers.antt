use Rattle.std.proofs.Common.{◌≡◌, ◌∙◌, ℕ, List, false, count_by, refl, ap, sym, subst, rules}
use Rattle.std.specs.List.{list_any}
use Rattle.tt_bits.specs.declared.times.Closure.{Closure}
use Rattle.tt_state.specs.Snapshots.{is_open_in}
use Rattle.tt_state.specs.History.{Contents}
use Rattle.tt_state.proofs.ClosureLemmas.{none_open, some_open}
use Rattle.tt_state.proofs.state.State.reopen.Goals as goal

-- where no closure of the room is open the count is 0
counts_none : (room n : ℕ) (counted cs : List Closure) → n ≡ count_by (is_open_in room) counted → counted ≡ cs → list_any (is_open_in room) cs ≡ false → n ≡ 0
counts_none room n counted cs count same none = some_open (is_open_in room) counted n count (subst (λ (l : List Closure). list_any (is_open_in room) l ≡ false) (sym same) none)

pub returns-then-open_count-eq0-clause-nothing : goal.returns-then-open_count-eq0-clause-nothing
returns-then-open_count-eq0-clause-nothing c =
    let none = none_open (is_open_in c.args.room) c.closures.result.now c.open_count.result c.open_count.ensures.count c.if-open_count-eq0.true in
    let same = c.closures.ensures ∙ ap (λ (h : Contents). h.present.closures) c.self.view_is in
    (λ _. subst (λ (cs : List Closure). list_any (is_open_in c.args.room) cs ≡ false) same none, λ _. refl)

pub returns-in_err-reopen_room-clause-nothing : goal.returns-in_err-reopen_room-clause-nothing
returns-in_err-reopen_room-clause-nothing c =
    let same = c.closures.ensures ∙ ap (λ (h : Contents). h.present.closures) c.self.view_is in
    (search rules, λ none. absurd (c.if-open_count-eq0.false (counts_none c.args.room c.open_count.result c.closures.result.now c.args.self.now.present.closures c.open_count.ensures.count same none)))

pub returns-clause-nothing : goal.returns-clause-nothing
returns-clause-nothing c =
    let same = c.closures.ensures ∙ ap (λ (h : Contents). h.present.closures) c.self.view_is in
    (λ e. absurd (cc e), λ none. absurd (c.if-open_count-eq0.false (counts_none c.args.room c.open_count.result c.closures.result.now c.args.self.now.present.closures c.open_count.ensures.count same none)))
