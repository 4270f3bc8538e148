use Rattle.tt_published.proofs.ResultLemmas.{always}
use Rattle.std.proofs.Common.{refl}
use Rattle.tt_score.specs.Totals.{totals_of}
use Rattle.tt_explain.proofs.WrongLemmas.{all_as_counted, hard_as_counted, none_where_ready}
use Rattle.tt_explain.proofs.wrong.violations.Goals as goal

pub returns-clause-count : goal.returns-clause-count
returns-clause-count c =
    let p = c.args.state.now.problem in
    let s = c.args.state.now.present in
    always c.add_count.result (all_as_counted p s c.soundness.ensures.present (totals_of p s.closures s.plan s.lists) refl)

pub returns-clause-hard : goal.returns-clause-hard
returns-clause-hard c = always c.add_count.result (hard_as_counted c.args.state.now.problem c.args.state.now.present c.soundness.ensures.present)

pub returns-clause-ready : goal.returns-clause-ready
returns-clause-ready c = always c.add_count.result (none_where_ready c.args.state.now.problem c.args.state.now.present c.soundness.ensures.present)
