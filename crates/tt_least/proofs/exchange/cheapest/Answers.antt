use Rattle.std.proofs.Common.{◌≡◌, ◌<◌, true, get_or, length, arith}
use Rattle.std.specs.Prelude.{slice_get}
use Rattle.std.proofs.lemmas.Option.{slice_get-get_or}
use Rattle.tt_problem.specs.declared.parts.Span.{Span}
use Rattle.tt_problem.specs.Spans.{is_in}
use Rattle.tt_least.proofs.ChoiceLemmas.{choice-at, choice-in, choice-long, span-at, within-span}
use Rattle.tt_least.proofs.LeastLemmas.{no-span}
use Rattle.tt_least.proofs.OptionLemmas.{some-at}
use Rattle.tt_least.proofs.exchange.cheapest.Goals as goal
use Rattle.tt_least.proofs.exchange.cheapest.Goals.{then-has+then-pairs-fewest, then-has+else-pairs-fewest, else-has}

pub bounds-choice-part : goal.bounds-choice-part
bounds-choice-part c = omega (arith, c.requires.part, choice-long c.args.table.now.subparts.now c.args.choice.now c.requires.choice)

pub added-fewest-requires-clause-choice : goal.added-fewest-requires-clause-choice
added-fewest-requires-clause-choice c = choice-in c.args.table.now c.args.choice.now c.requires.table c.requires.choice

pub added-fewest-requires-clause-class : goal.added-fewest-requires-clause-class
added-fewest-requires-clause-class c =
    let there : c.args.part < length c.args.choice.now = omega (arith, c.requires.part, choice-long c.args.table.now.subparts.now c.args.choice.now c.requires.choice) in
    choice-in c.args.table.now c.args.choice.now c.requires.table c.requires.choice c.args.part 0 there

pub loop-class-init : goal.loop-class-init
loop-class-init c =
    let subparts = c.args.table.now.subparts.now in
    let span = get_or subparts c.args.part no-span in
    let bounds = choice-at subparts c.args.choice.now c.args.part span c.requires.choice (slice_get-get_or subparts c.args.part no-span c.requires.part) in
    within-span (get_or c.args.choice.now c.args.part 0) span bounds.0 bounds.1

pub has-requires-clause-class : goal.has-requires-clause-class
has-requires-clause-class c =
    let span = span-at c.args.table.now c.args.part no-span c.requires.table c.requires.part in
    (omega (arith, span.0, c.loop-class.auto.class), omega (arith, span.2, c.loop-class-test.true))

pub added-pairs-requires-clause-choice : goal.added-pairs-requires-clause-choice
added-pairs-requires-clause-choice c = choice-in c.args.table.now c.args.choice.now c.requires.table c.requires.choice

pub added-pairs-requires-clause-class : goal.added-pairs-requires-clause-class
added-pairs-requires-clause-class c =
    let span = span-at c.args.table.now c.args.part no-span c.requires.table c.requires.part in
    (omega (arith, span.0, c.loop-class.auto.class), omega (arith, span.2, c.loop-class-test.true))

pub loop-class-preserved : goal.loop-class-preserved
loop-class-preserved c = elim c.if-has.branch [
  | then-has+then-pairs-fewest w ↦
      rw w.best-is (within-span c.loop-class.class (get_or c.args.table.now.subparts.now c.args.part no-span) c.loop-class.auto.class c.loop-class-test.true)
  | then-has+else-pairs-fewest w ↦ rw w.best-is c.loop-class.invariant
  | else-has w ↦ rw w.best-is c.loop-class.invariant
]

pub returns : goal.returns
returns c =
    let subparts = c.args.table.now.subparts.now in
    some-at (slice_get subparts c.args.part) (get_or subparts c.args.part no-span) (λ (s : Span). is_in c.loop-class.best s ≡ true)
    (slice_get-get_or subparts c.args.part no-span c.requires.part) c.loop-class.invariant
