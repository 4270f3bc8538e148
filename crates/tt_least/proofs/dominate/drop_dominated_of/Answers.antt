use Rattle.std.proofs.Common.{List, Bool, arith, subst, sym}
use Rattle.std.proofs.lemmas.Option.{slice_get-get_or}
use Rattle.tt_least.proofs.ExchangeLemmas.{IsPruned, pruned-trans, exchange, no-span, part-within}
use Rattle.tt_least.proofs.dominate.drop_dominated_of.Goals as goal
use Rattle.tt_least.proofs.dominate.drop_dominated_of.Goals.{then-is_dominated, else-is_dominated}

pub is_dominated-requires-clause-first : goal.is_dominated-requires-clause-first
is_dominated-requires-clause-first c = (part-within c.args.table.now c.args.part c.requires.table c.requires.part).0

pub is_dominated-requires-clause-after : goal.is_dominated-requires-clause-after
is_dominated-requires-clause-after c = (part-within c.args.table.now c.args.part c.requires.table c.requires.part).1

pub is_dominated-requires-clause-class : goal.is_dominated-requires-clause-class
is_dominated-requires-clause-class c =
    let within = part-within c.args.table.now c.args.part c.requires.table c.requires.part in
    (omega arith, omega arith)

pub overflow_sub-left : goal.overflow_sub-left
overflow_sub-left c = omega (arith, part-within c.args.table.now c.args.part c.requires.table c.requires.part)

pub bounds-left-class : goal.bounds-left-class
bounds-left-class c =
    let within = part-within c.args.table.now c.args.part c.requires.table c.requires.part in
    omega (arith, c.requires.table.sized.few)

pub loop-class-preserved : goal.loop-class-preserved
loop-class-preserved c =
    let t = c.args.table.now in
    let before = c.loop-class.invariant in
    elim c.if-is_dominated.branch [
      | then-is_dominated w ↦
          let part = slice_get-get_or t.subparts.now c.args.part no-span c.requires.part in
          let less = exchange t c.requires.table c.loop-class.left c.args.part _ part c.loop-class.class (omega arith) (omega arith) (c.is_dominated.ensures w.if-is_dominated.true) in
          let P : List Bool → Type 0 = λ flags. IsPruned t c.args.left.now flags in
          subst P (sym w.left-is) (pruned-trans t _ _ _ before less)
      | else-is_dominated w ↦
          let P : List Bool → Type 0 = λ flags. IsPruned t c.args.left.now flags in
          subst P (sym w.left-is) before
    ]
