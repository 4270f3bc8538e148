use Rattle.std.proofs.Common.{arith}
use Rattle.tt_deluge.specs.Reading.{random_of}
use Rattle.tt_deluge.proofs.WordLemmas.{draw_is, drawn_below}
use Rattle.tt_deluge.proofs.drawing.draw_below.Goals as goal

pub returns-clause-draw : goal.returns-clause-draw
returns-clause-draw c = draw_is c.args.count c.next_u32.result c.draw.result (random_of c.args.random.now) (random_of c.next_u32.new.self) c.next_u32.ensures c.draw.ensures

pub returns-clause-below : goal.returns-clause-below
returns-clause-below c = λ some. omega (arith, c.draw.ensures, drawn_below c.next_u32.result c.args.count (omega arith) some)
