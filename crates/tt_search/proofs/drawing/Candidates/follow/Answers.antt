use Rattle.std.proofs.Common.{drop, ◌+◌}
use Rattle.std.proofs.lemmas.Option.{slice_get-get_or}
use Rattle.tt_base.proofs.ListLemmas.{drop_at}
use Rattle.tt_search.proofs.drawing.Candidates.follow.Goals as goal

pub loop-taken-init : goal.loop-taken-init
loop-taken-init c = rw c.taken-taken-items.ensures.classes (c.look_at.ensures.right c.args.state.now.taken c.requires.late)

pub loop-taken-preserved : goal.loop-taken-preserved
loop-taken-preserved c =
    let taken = c.taken-taken-items.result.now in
    let i = c.loop-taken.taken-index in
    c.look_at-in-loop-taken.ensures.right (drop (i + 1) taken)
    (rw (drop_at taken i _ (slice_get-get_or taken i 0 c.loop-taken-test.true)) at c.loop-taken.invariant)
