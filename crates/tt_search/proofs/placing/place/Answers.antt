use Rattle.std.proofs.lemmas.Result.{on_ok_weaker}
use Rattle.tt_search.proofs.KeptLemmas.{place_locked_stay}
use Rattle.tt_search.proofs.placing.place.Goals as goal

pub returns-clause-locked : goal.returns-clause-locked
returns-clause-locked g c =
    let start = c.args.state.now in
    on_ok_weaker c.place_on.result (λ end. place_locked_stay start.problem c.args.turns c.args.seed start.present c.place_on.new.state.present c.soundness.ensures.present.locks.placed end) c.place_on.ensures.end
