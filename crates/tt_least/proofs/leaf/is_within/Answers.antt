use Rattle.tt_least.proofs.ChoiceLemmas.{choice-in}
use Rattle.tt_least.proofs.leaf.is_within.Goals as goal

pub are_left-requires-clause-choice : goal.are_left-requires-clause-choice
are_left-requires-clause-choice c = choice-in c.args.table.now c.args.choice.now c.requires.table c.requires.choice

pub pairs_of-requires-clause-choice : goal.pairs_of-requires-clause-choice
pairs_of-requires-clause-choice c = choice-in c.args.table.now c.args.choice.now c.requires.table c.requires.choice

pub is_allowed-requires-clause-choice : goal.is_allowed-requires-clause-choice
is_allowed-requires-clause-choice c = choice-in c.args.table.now c.args.choice.now c.requires.table c.requires.choice
