use Rattle.std.proofs.Common.{◌≡◌, true, length, get_or, refl, sym, ap, ◌∙◌, arith}
use Rattle.std.proofs.lemmas.List.{get_or_default, with_items_is}
use Rattle.std.specs.Vec.{with_items}
use Rattle.tt_problem.specs.Spans.{is_in}
use Rattle.tt_least.specs.declared.search.Search.{Search}
use Rattle.tt_least.specs.Searches.{IsSettled}
use Rattle.tt_least.proofs.ChoiceLemmas.{span-at}
use Rattle.tt_least.proofs.LeastLemmas.{found-inside, found-settled, no-span, ready-after, settled-by}
use Rattle.tt_least.proofs.settle.settle.Goals as goal

pub leave_alone-requires-clause-from : goal.leave_alone-requires-clause-from
leave_alone-requires-clause-from c =
    (span-at c.args.table.now c.args.part no-span c.requires.table c.requires.part).0

pub leave_alone-requires-clause-within : goal.leave_alone-requires-clause-within
leave_alone-requires-clause-within c =
    let span = span-at c.args.table.now c.args.part no-span c.requires.table c.requires.part in
    let long : length c.as_mut_slice.result.now ≡ c.args.table.now.size = ap length c.as_mut_slice.ensures.value ∙ c.seek_first.ensures.ready.room.left in
    omega (arith, span.2, long, c.requires.table.sized.few)

pub leave_alone-requires-clause-class : goal.leave_alone-requires-clause-class
leave_alone-requires-clause-class c =
    let t = c.args.table.now in
    let best = c.seek_first.new.search.scratch.best.items in
    let inside : is_in (get_or best c.args.part 0) (get_or t.subparts.now c.args.part no-span) ≡ true =
    found-inside t c.args.search.now.left.items best c.args.part no-span c.requires.part c.seek_first.ensures.found.is_left in
    let read : c.index-class.result.now ≡ get_or best c.args.part 0 = c.index-class.ensures
    ∙ get_or_default best c.args.part c.index-class.result.now 0 (omega (arith, c.requires.part, c.requires.table.few, c.seek_first.ensures.ready.ready.best)) in
    rw read inside

pub returns : goal.returns
returns c =
    let t = c.args.table.now in
    let found = c.seek_first.new.search in
    let best = found.scratch.best.items in
    let long : length c.leave_alone.new.left ≡ found.left.len = c.leave_alone.ensures.long ∙ c.as_mut_slice.ensures.len in
    let new = with_items_is found.left c.leave_alone.new.left long in
    let read : c.index-class.result.now ≡ get_or best c.args.part 0 = c.index-class.ensures
    ∙ get_or_default best c.args.part c.index-class.result.now 0 (omega (arith, c.requires.part, c.requires.table.few, c.seek_first.ensures.ready.ready.best)) in
    let after : Search = record found { left = with_items found.left c.leave_alone.new.left } in
    let settled : IsSettled t c.args.part c.args.limit c.args.search.now after =
    settled-by t c.args.part c.index-class.result.now c.args.limit no-span c.as_mut_slice.result.now c.leave_alone.new.left c.args.search.now after c.requires.part
    c.seek_first.ensures.found c.seek_first.ensures.first read (c.as_mut_slice.ensures.value ∙ c.seek_first.ensures.left) (sym new) c.leave_alone.ensures in
    record {
      ready = ready-after t found after c.seek_first.ensures.ready c.seek_first.ensures.ready.ready c.seek_first.ensures.ready.room.levels refl
          (ap length new ∙ c.leave_alone.ensures.long ∙ ap length c.as_mut_slice.ensures.value) refl;
      found = found-settled t c.args.part c.args.limit c.args.search.now after c.requires.table c.requires.part settled c.seek_first.ensures.found;
      settled = settled;
    }
