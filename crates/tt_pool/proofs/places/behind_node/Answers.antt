use Rattle.tt_pool.proofs.EndLemmas.{behind_last, behind_other}
use Rattle.tt_pool.proofs.places.behind_node.Goals as goal

pub returns-then-backs-end : goal.returns-then-backs-end
returns-then-backs-end c chain at s = behind_last c.args.nodes.now c.args.backs.now c.args.end chain at c.args.node s c.if-backs-end.true

pub returns : goal.returns
returns c chain at s = behind_other c.args.nodes.now c.args.backs.now c.args.end chain at c.args.node s c.if-backs-end.false
