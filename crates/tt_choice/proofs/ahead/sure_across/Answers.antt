use Rattle.std.proofs.Common.{◌+◌, arith, zero-add, add-zero, add_assoc}
use Rattle.tt_problem.specs.declared.parts.Span.{Span}
use Rattle.tt_choice.specs.Standings.{situation_in}
use Rattle.tt_choice.proofs.AheadLemmas.{across-none, across-more}
use Rattle.tt_choice.proofs.ahead.sure_across.Goals as goal

abbrev none : Span
none = record { first = 0; after = 0 }

pub loop-span-init : goal.loop-span-init
loop-span-init c = record { across = λ n h. rw zero-add h; few = omega arith }

pub loop-span-preserved : goal.loop-span-preserved
loop-span-preserved c =
    let s = situation_in c.args.standing.now in
    let before = c.loop-span.invariant in
    let least = c.least_with-pairs.result in
    record {
      across = λ n h. rw (add_assoc c.loop-span.pairs least n) (before.across (least + n) (across-more s c.args.front.now c.args.rest.now c.loop-span.span-index none least n (omega arith) c.least_with-pairs.ensures.least h));
      few = omega (arith, before.few, c.least_with-pairs.ensures.few, c.requires.few_front);
    }

pub returns-clause-across : goal.returns-clause-across
returns-clause-across c =
    let s = situation_in c.args.standing.now in
    let whole = c.loop-span.invariant.across 0 (across-none s c.args.front.now c.args.rest.now c.loop-span.span-index (omega arith)) in
    rw add-zero at whole
