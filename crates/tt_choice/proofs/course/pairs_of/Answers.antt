use Rattle.std.proofs.Common.{ap, ◌∙◌}
use Rattle.tt_choice.specs.Least.{Situation, pairs_added}
use Rattle.tt_choice.proofs.course.pairs_of.Goals as goal

pub returns : goal.returns
returns c = c.pairs_in.ensures ∙ ap (λ (s : Situation). pairs_added s c.args.choice.now) c.new-standing.ensures.situation
