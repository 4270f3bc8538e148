use Rattle.std.proofs.Common.{◌∙◌, ◌≤◌, List, ℕ, length, ap, sym, arith}
use Rattle.std.specs.List.{find}
use Rattle.std.proofs.lemmas.List.{drop_all}
use Rattle.tt_state.specs.Snapshots.{is_locked_in}
use Rattle.tt_state.specs.History.{Contents}
use Rattle.tt_state.proofs.ObstacleLemmas.{none_passes}
use Rattle.tt_state.proofs.state.State.first_locked.Goals as goal

pub returns-clause-free : goal.returns-clause-free
returns-clause-free c =
    let h = c.args.self.now in
    let same = c.as_slice-class-items.ensures.list ∙ ap (λ (x : Contents). x.taken) c.self.view_is in
    let le : length h.taken ≤ c.loop-class.class-index = omega (arith, c.loop-class-test.false, ap (λ (l : List ℕ). length l) same) in
    λ none. none_passes (is_locked_in h.present) h.taken (sym c.loop-class.invariant ∙ ap (find (is_locked_in h.present)) (drop_all c.loop-class.class-index h.taken le))
