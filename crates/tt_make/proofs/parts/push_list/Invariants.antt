use Rattle.tt_make.proofs.Texts.{Writes}
use Rattle.tt_make.proofs.parts.push_list.Given as goal

abbrev pub invariant-loop-i : goal.invariant-loop-i
invariant-loop-i g l = Writes (g.P.Made.made l.part) l.from l.count l.i l.initial.random l.fn.out.items l.out.items l.random
