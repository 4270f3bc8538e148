use Rattle.std.proofs.Common.{Some}
use Rattle.std.proofs.lemmas.Result.{on_ok_weaker}
use Rattle.tt_search.proofs.KeptLemmas.{locked_stay}
use Rattle.tt_search.proofs.seeking.repair.Goals as goal

pub returns-clause-locked : goal.returns-clause-locked
returns-clause-locked g c =
    let start = c.args.state.now in
    on_ok_weaker c.seek.result (λ end. locked_stay start.problem (Some c.args.published.now) c.args.turns c.args.seed start.present c.seek.new.state.present c.soundness.ensures.present.locks.placed end) (rw c.to.ensures at c.seek.ensures.end)
