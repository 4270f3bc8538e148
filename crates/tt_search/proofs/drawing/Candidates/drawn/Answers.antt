use Rattle.tt_search.proofs.DrawingLemmas.{set_are_candidates}
use Rattle.tt_search.proofs.drawing.Candidates.drawn.Goals as goal

pub returns : goal.returns
returns c = λ p s now. rw (c.draw.ensures, c.from.ensures, c.count.ensures.count, set_are_candidates p s c.args.self.now now) at c.nth.ensures.number
