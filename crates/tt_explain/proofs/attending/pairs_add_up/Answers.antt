use Rattle.tt_explain.proofs.TotalLaws.{pairs_add_up, pairs_counted}
use Rattle.tt_explain.proofs.attending.pairs_add_up.Goals as goal

pub returns : goal.returns
returns c = record {
  own = pairs_counted c.args.state.now.problem c.args.state.now.present c.args.student;
  all = pairs_add_up c.args.state.now.problem c.args.state.now.present c.soundness.ensures.present.lists.whole;
}
