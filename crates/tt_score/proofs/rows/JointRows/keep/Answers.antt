use Rattle.std.proofs.Common.{◌≡◌, ◌∙◌, ℕ, ◌≤◌, ◌<◌, Some, length, map, take, refl, ap, arith}
use Rattle.std.specs.Prelude.{IfSome, slice_set}
use Rattle.std.specs.Option.{option_map}
use Rattle.std.specs.Vec.{with_items}
use Rattle.std.proofs.lemmas.List.{with_items_is, length-map, length-set, length-append, length-take-le}
use Rattle.tt_score.specs.Rows.{AreRowsOf, IsRowOf, kept_row, pair_of}
use Rattle.tt_score.specs.Spans.{IsSpan, pairs_in, rows_of, span_at}
use Rattle.tt_score.proofs.RowLemmas.{all_within, row-counted, row-kept, rows-more}
use Rattle.tt_score.proofs.rows.JointRows.keep.Goals as goal
use Rattle.tt_score.proofs.rows.JointRows.keep.Goals.{After-clear}

pub returns-then-not-is_missing-clause-row : goal.returns-then-not-is_missing-clause-row
returns-then-not-is_missing-clause-row c = row-kept c.args.roster.now.seats c.args.self.now c.args.class c.requires.rows (c.is_missing.ensures.kept c.if-not-is_missing.true)

pub add_pairs-span-requires-clause-within : goal.add_pairs-span-requires-clause-within
add_pairs-span-requires-clause-within c =
    let i = c.self.inside in
    let made = c.joint_row-met in
    let numbers = with_items_is i.numbers made.new.row (omega (arith, made.auto.row, c.as_mut_slice.ensures.len)) in
    let touched = with_items_is i.touched made.new.touched (omega (arith, made.auto.touched, c.as_mut_slice-2.ensures.len)) in
    rw (c.deref.ensures.value, touched, c.as_slice.ensures.value, numbers) (all_within made.new.row (take made.result made.new.touched) (length made.new.row) made.ensures.touched refl)

-- what is kept then
made : (c : After-clear)
    → ((k : ℕ) → IfSome (span_at (slice_set c.make_room.new.spans.items c.args.class (Some c.add_pairs-span.result)) k) (IsSpan (length c.add_pairs-span.new.pairs.items)))
    × AreRowsOf c.args.roster.now.seats (rows_of c.add_pairs-span.new.pairs.items (slice_set c.make_room.new.spans.items c.args.class (Some c.add_pairs-span.result)))
    × IsRowOf c.args.roster.now.seats (length (rows_of c.add_pairs-span.new.pairs.items (slice_set c.make_room.new.spans.items c.args.class (Some c.add_pairs-span.result)))) c.args.class
    (kept_row (rows_of c.add_pairs-span.new.pairs.items (slice_set c.make_room.new.spans.items c.args.class (Some c.add_pairs-span.result))) c.args.class)
made c =
    let i = c.self.inside in
    let row = c.joint_row-met in
    let seats = c.args.roster.now.seats in
    let numbers = with_items_is i.numbers row.new.row (omega (arith, row.auto.row, c.as_mut_slice.ensures.len)) in
    let touched = with_items_is i.touched row.new.touched (omega (arith, row.auto.touched, c.as_mut_slice-2.ensures.len)) in
    let n = length (rows_of i.pairs.items i.spans.items) in
    let whole : n ≡ length i.spans.items = length-map i.spans.items (option_map (pairs_in i.pairs.items)) in
    let long : length row.new.row ≡ n = omega (arith, whole, row.auto.row, c.as_mut_slice.ensures.len, i.numbers.ok.0, c.self.invariant.numbers) in
    let few : length (take row.result row.new.touched) ≤ n =
    omega (arith, whole, row.auto.touched, c.as_mut_slice-2.ensures.len, i.touched.ok.0, c.self.invariant.touched, row.ensures.few, length-take-le row.result row.new.touched row.ensures.few) in
    let lt : c.args.class < n = rw (← c.self.view_is) at (c.is_missing.ensures.within c.if-not-is_missing.false) in
    let is = rw (c.deref.ensures.value, touched, c.as_slice.ensures.value, numbers) at c.add_pairs-span.ensures.pairs in
    rows-more seats i.pairs.items c.make_room.new.pairs.items c.add_pairs-span.new.pairs.items (map (pair_of row.new.row) (take row.result row.new.touched)) i.spans.items c.make_room.new.spans.items c.args.class c.add_pairs-span.result
    c.self.invariant.spans (rw (← c.self.view_is) at c.requires.rows) c.make_room.ensures.stand c.make_room.ensures.long (omega (arith, lt, whole, c.make_room.ensures.long)) is c.add_pairs-span.ensures.start c.add_pairs-span.ensures.end
    (row-counted seats n c.args.class row.new.row (take row.result row.new.touched) row.ensures.row row.ensures.touched long few)

pub invariant_of-self : goal.invariant_of-self
invariant_of-self c =
    let i = c.self.inside in
    let row = c.joint_row-met in
    let kept = c.self.invariant in
    let zeros = with_items_is (with_items i.numbers row.new.row) c.clear.new.numbers (omega (arith, c.clear.auto.numbers, c.as_mut_slice-3.ensures.len)) in
    let touched = with_items_is i.touched row.new.touched (omega (arith, row.auto.touched, c.as_mut_slice-2.ensures.len)) in
    let spans = length-set c.make_room.new.spans.items c.args.class (Some c.add_pairs-span.result) in
    let more = ap length c.add_pairs-span.ensures.pairs ∙ length-append c.make_room.new.pairs.items _ in
    let count = length-map (take row.result c.deref.result.now) (pair_of c.as_slice.result.now) in
    let met : length (take row.result c.deref.result.now) ≡ row.result = rw (c.deref.ensures.value, touched) (length-take-le row.result row.new.touched row.ensures.few) in
    record {
      spans = (made (goal.at.invariant_of-self c).After-clear).0;
      few = omega (arith, more, count, met, c.make_room.ensures.room);
      memory = omega (arith, kept.memory, c.make_room.ensures.capacity, c.add_pairs-span.ensures.capacity);
      whole = omega (arith, spans, c.make_room.ensures.long, kept.whole);
      numbers = rw zeros (omega (arith, c.clear.auto.numbers, c.as_mut_slice-3.ensures.len, i.numbers.ok.0, kept.numbers, spans, c.make_room.ensures.long));
      touched = rw touched (omega (arith, row.auto.touched, c.as_mut_slice-2.ensures.len, i.touched.ok.0, kept.touched, spans, c.make_room.ensures.long));
      clear = rw zeros c.clear.ensures;
    }

pub returns-clause-rows : goal.returns-clause-rows
returns-clause-rows c = (made (goal.at.returns-clause-rows c).After-clear).1

pub returns-clause-row : goal.returns-clause-row
returns-clause-row c = (made (goal.at.returns-clause-row c).After-clear).2
