use Rattle.tt_published.proofs.ResultLemmas.{always}
use Rattle.tt_verify.proofs.HardLemmas.{as_many_as_hard}
use Rattle.tt_verify.proofs.checking.add_hard_violations.Goals as goal

pub returns-clause-hard : goal.returns-clause-hard
returns-clause-hard c = always c.add_all_rule_faults.result (as_many_as_hard c.args.problem.now c.args.closures.now c.args.spots.now)
