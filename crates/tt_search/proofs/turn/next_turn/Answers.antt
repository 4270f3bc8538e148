use Rattle.std.proofs.Common.{sym, ◌∙◌}
use Rattle.tt_search.proofs.DrawingLemmas.{drawn_below}
use Rattle.tt_search.proofs.turn.next_turn.Goals as goal

pub best_value-value-requires-clause-class : goal.best_value-value-requires-clause-class
best_value-value-requires-clause-class c = drawn_below c.args.state.now.problem c.args.state.now.present c.args.word _ (sym (c.drawn.ensures c.args.state.now.problem c.args.state.now.present c.requires.candidates) ∙ c.in_ok-class.was)
