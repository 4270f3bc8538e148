use Rattle.tt_least.proofs.ChoiceLemmas.{choice-in}
use Rattle.tt_least.proofs.exchange.exchange_once.Goals as goal

pub pairs_of-requires-clause-choice : goal.pairs_of-requires-clause-choice
pairs_of-requires-clause-choice c = choice-in c.args.table.now _ c.requires.table (c.is_within.ensures.yes c.if-not-is_within.false).is_left.one_of_each
