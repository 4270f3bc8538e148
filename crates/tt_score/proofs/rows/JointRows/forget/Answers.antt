use Rattle.std.proofs.Common.{None}
use Rattle.std.specs.Option.{option_map}
use Rattle.std.proofs.lemmas.List.{map-set}
use Rattle.tt_score.specs.Spans.{pairs_in}
use Rattle.tt_score.proofs.rows.JointRows.forget.Goals as goal

pub returns-then-class-len : goal.returns-then-class-len
returns-then-class-len c = rw (← c.self.view_is) (map-set (option_map (pairs_in c.self.inside.pairs.items)) c.self.inside.spans.items c.args.class None)
