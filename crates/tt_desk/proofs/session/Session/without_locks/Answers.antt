use Rattle.tt_desk.proofs.UnlockedLemmas.{without_locks}
use Rattle.tt_desk.proofs.session.Session.without_locks.Goals as goal

pub returns : goal.returns
returns c = without_locks c.args.self.now.desk.problem c.args.self.now.desk.present
