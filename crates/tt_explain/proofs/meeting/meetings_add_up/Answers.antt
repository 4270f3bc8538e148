use Rattle.tt_explain.proofs.TotalLaws.{met_add_up}
use Rattle.tt_explain.proofs.meeting.meetings_add_up.Goals as goal

pub returns : goal.returns
returns c = met_add_up c.args.state.now.problem c.args.state.now.present c.args.class c.soundness.ensures.present.lists.ordered
