use Rattle.std.proofs.Common.{◌≡◌, true, get_or, refl, ◌∙◌, arith}
use Rattle.std.proofs.lemmas.List.{get_or_default}
use Rattle.std.specs.Prelude.{slice_get}
use Rattle.std.proofs.lemmas.Option.{slice_get-get_or}
use Rattle.tt_problem.specs.declared.parts.Span.{Span}
use Rattle.tt_problem.specs.Spans.{is_in}
use Rattle.tt_least.proofs.ChoiceLemmas.{choice-at, in-bounds, within-span}
use Rattle.tt_least.proofs.LeastLemmas.{found-inside, no-span}
use Rattle.tt_least.proofs.OptionLemmas.{some-at}
use Rattle.tt_least.proofs.settle.seek_first.Goals as goal

pub loop-class-init : goal.loop-class-init
loop-class-init c =
    let t = c.args.table.now in
    let span = get_or t.subparts.now c.args.part no-span in
    record {
      ready = c.requires.ready;
      left = refl;
      best = refl;
      none = λ choice within. (choice-at t.subparts.now choice c.args.part span within.is_left.one_of_each (slice_get-get_or t.subparts.now c.args.part no-span c.requires.part)).0;
    }

pub exists_with-requires-clause-class : goal.exists_with-requires-clause-class
exists_with-requires-clause-class c =
    let t = c.args.table.now in
    let span = get_or t.subparts.now c.args.part no-span in
    let best = c.args.search.now.scratch.best.items in
    let read = c.index-found.ensures ∙ get_or_default best c.args.part c.index-found.result.now 0 (omega (arith, c.requires.part, c.requires.table.few, c.requires.ready.ready.best)) in
    let inside = in-bounds (get_or best c.args.part 0) span (found-inside t c.args.search.now.left.items best c.args.part no-span c.requires.part c.requires.found.is_left) in
    some-at (slice_get t.subparts.now c.args.part) span (λ (s : Span). is_in c.loop-class.class s ≡ true) (slice_get-get_or t.subparts.now c.args.part no-span c.requires.part)
    (within-span c.loop-class.class span c.loop-class.auto.class (omega (arith, inside.1, c.loop-class-test.true, read)))
