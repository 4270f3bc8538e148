use Rattle.std.proofs.Common.{◌≡◌, suc, ◌+◌, ◌≤◌, false, true, length, take, get_or, refl, ap, arith}
use Rattle.std.specs.Prelude.{IfSome, slice_get}
use Rattle.std.proofs.lemmas.Option.{slice_get-get_or}
use Rattle.tt_problem.specs.declared.parts.Span.{Span}
use Rattle.tt_problem.specs.Spans.{is_in}
use Rattle.tt_least.specs.declared.level.Level.{Level}
use Rattle.tt_least.specs.Judged.{is_flagged}
use Rattle.tt_least.specs.Nodes.{HasPlaces, count_to_come}
use Rattle.tt_least.proofs.ChoiceLemmas.{within-span}
use Rattle.tt_least.proofs.NarrowLemmas.{node-narrowed, places-narrowed}
use Rattle.tt_least.proofs.SeekLemmas.{IsStep, each-vain, first-and-rest, inside-in, none-before, not-chosen, some-to_come, step-count, step-node, step-vain, step-within}
use Rattle.tt_least.proofs.search.+seeking.Goals as goal

pub seek-write_first-requires-clause-node : goal.seek-write_first-requires-clause-node
seek-write_first-requires-clause-node t c =
    node-narrowed c.args.table.now c.args.limit c.args.level.now c.narrow.new.level c.narrow.ensures.narrowed c.requires.node

pub seek-keep_choice-requires-clause-node : goal.seek-keep_choice-requires-clause-node
seek-keep_choice-requires-clause-node t c =
    node-narrowed c.args.table.now c.args.limit c.args.level.now c.narrow.new.level c.narrow.ensures.narrowed c.requires.node

pub seek-seek_below-requires : goal.seek-seek_below-requires
seek-seek_below-requires t c =
    let table = c.args.table.now in
    let old = c.args.level.now in
    let new = c.narrow.new.level in
    let narrowed = c.narrow.ensures.narrowed in
    let count : count_to_come table new ≡ count_to_come table old = ap (λ (l : Level). count_to_come table l) narrowed.same in
    let room : count_to_come table new ≤ length c.args.deeper.now = omega (arith, count, c.requires.room) in
    let places = places-narrowed table c.args.limit table.size old new narrowed c.requires.places in
    let node = node-narrowed table c.args.limit old new narrowed c.requires.node in
    let some = c.in-Some.ensures.some in
    let come = c.in-Some.ensures.come in
    (omega arith, (c.requires.table, (c.requires.few, (c.write_first.ensures.ready, (places, (node, (some, (come, (c.requires.deeper, room)))))))))

pub seek_below-returns-in_default-clause-none : goal.seek_below-returns-in_default-clause-none
seek_below-returns-in_default-clause-none t c = λ e.
    let some = some-to_come c.args.table.now c.args.level.now c.args.part c.requires.table c.requires.places c.requires.part c.requires.come in
    absurd (omega (arith, some, c.requires.room, c.in_default.ensures.cases))

pub seek_below-loop-class-init : goal.seek_below-loop-class-init
seek_below-loop-class-init t c =
    let table = c.args.table.now in
    let none : Span = record { first = 0; after = 0 } in
    let span = get_or table.subparts.now c.args.part none in
    let at = slice_get-get_or table.subparts.now c.args.part none c.requires.part in
    let both = first-and-rest (HasPlaces table.size) c.args.deeper.now c.in-Some.child.now c.in-Some.rest.now c.in-Some.ensures.cases.0 c.requires.deeper in
    record {
      ready = c.requires.ready;
      child = both.0;
      rest = both.1;
      vain = λ choice of less allowed. absurd (none-before table c.args.level.now c.args.part span at choice of less);
      best = refl;
    }

pub seek_below-seek_with-requires : goal.seek_below-seek_with-requires
seek_below-seek_with-requires t c =
    let table = c.args.table.now in
    let none : Span = record { first = 0; after = 0 } in
    let span = get_or table.subparts.now c.args.part none in
    let at = slice_get-get_or table.subparts.now c.args.part none c.requires.part in
    let inside : IfSome (slice_get table.subparts.now c.args.part) (λ s. is_in c.loop-class.class s ≡ true) =
    rw at (within-span c.loop-class.class span c.loop-class.auto.class c.loop-class-test.true) in
    let long : length c.loop-class.rest + 1 ≡ length c.args.deeper.now = omega (arith, c.in-Some.ensures.cases.1, c.loop-class.auto.rest) in
    let room : count_to_come table c.args.level.now ≤ suc (length c.loop-class.rest) = omega (arith, c.requires.room, long) in
    let kept = c.loop-class.invariant in
    let asked = c.requires in
    (omega arith, (asked.table, (asked.few, (kept.ready, (asked.places, (asked.node, (asked.part, (asked.come, (inside, (kept.child, (kept.rest, room)))))))))))

pub seek_below-returns-clause-none : goal.seek_below-returns-clause-none
seek_below-returns-clause-none t c = λ e.
    let table = c.args.table.now in
    let none : Span = record { first = 0; after = 0 } in
    let span = get_or table.subparts.now c.args.part none in
    let at = slice_get-get_or table.subparts.now c.args.part none c.requires.part in
    each-vain table c.args.level.now c.args.part c.args.limit span at
    (λ choice of less allowed. c.loop-class.invariant.vain choice of (omega (arith, less, c.loop-class-test.false)) allowed)

pub seek_with-has-requires-clause-class : goal.seek_with-has-requires-clause-class
seek_with-has-requires-clause-class t c =
    inside-in c.args.table.now c.args.part c.args.class c.requires.table c.requires.part c.requires.class

pub seek_with-returns-then-not-has-clause-none : goal.seek_with-returns-then-not-has-clause-none
seek_with-returns-then-not-has-clause-none t c = λ e choice of is allowed.
    let gone : is_flagged c.args.table.now c.args.level.now.left.items c.args.class ≡ false = cc in
    absurd (not-chosen c.args.table.now c.args.level.now c.args.part c.args.class c.requires.part gone choice of is)

pub seek_with-seek-requires : goal.seek_with-seek-requires
seek_with-seek-requires t c =
    let table = c.args.table.now in
    let level = c.args.level.now in
    let child = c.choose.new.child in
    let left : is_flagged table level.left.items c.args.class ≡ true = cc in
    let step : IsStep table level c.args.part c.args.class child = record {
      table = c.requires.table;
      places = c.requires.places;
      child_places = c.choose.ensures.places;
      some = c.requires.part;
      to_come = c.requires.come;
      inside = c.requires.class;
      left = left;
      is_child = c.choose.ensures.child;
    } in
    let node = step-node table level c.args.part c.args.class child step c.requires.node in
    let room : count_to_come table child ≤ length c.args.rest.now = omega (arith, c.requires.room, step-count table level c.args.part c.args.class child step) in
    (omega arith, (c.requires.table, (c.requires.few, (c.requires.ready, (c.choose.ensures.places, (node, (c.requires.rest, room)))))))

pub seek_with-returns : goal.seek_with-returns
seek_with-returns t c =
    let table = c.args.table.now in
    let level = c.args.level.now in
    let child = c.choose.new.child in
    let left : is_flagged table level.left.items c.args.class ≡ true = cc in
    let step : IsStep table level c.args.part c.args.class child = record {
      table = c.requires.table;
      places = c.requires.places;
      child_places = c.choose.ensures.places;
      some = c.requires.part;
      to_come = c.requires.come;
      inside = c.requires.class;
      left = left;
      is_child = c.choose.ensures.child;
    } in
    let found = take (length table.subparts.now) c.seek.new.scratch.best.items in
    record {
      ready = c.seek.ensures.ready;
      child = c.seek.ensures.places;
      rest = c.seek.ensures.deeper;
      some = λ e. step-within table level c.args.part c.args.class child step c.args.limit found (c.seek.ensures.some e);
      none = λ e. step-vain table level c.args.part c.args.class child step c.args.limit (c.seek.ensures.none e);
      best = c.seek.ensures.best;
    }
