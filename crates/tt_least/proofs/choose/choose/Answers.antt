use Rattle.std.proofs.Common.{◌≡◌, ◌∙◌, ℕ, ◌+◌, ◌-◌, ◌<◌, ◌≤◌, Bool, true, false, cond, List, Option, Some, length, arith, ap}
use Rattle.std.specs.Prelude.{⊤, slice_get, slice_index_or, slice_set, IfSome}
use Rattle.std.specs.Vec.{with_items}
use Rattle.std.proofs.lemmas.List.{get_or_read, length-set, take_at}
use Rattle.std.proofs.lemmas.Option.{MatchOption-at_some, slice_get-get_or}
use Rattle.tt_problem.specs.declared.parts.Span.{Span}
use Rattle.tt_problem.specs.Spans.{is_in}
use Rattle.tt_least.specs.declared.table.Table.{Table}
use Rattle.tt_least.specs.declared.level.Level.{Level}
use Rattle.tt_least.specs.Judged.{IsIn, IsTable}
use Rattle.tt_least.proofs.ChoiceLemmas.{in-bounds, span-at}
use Rattle.tt_least.proofs.NodeLemmas.{child-made, class-in}
use Rattle.tt_least.proofs.OptionLemmas.{some-at}
use Rattle.tt_least.proofs.choose.choose.Goals as goal

abbrev no_span : Span
no_span = record { first = 0; after = 0 }

-- the class is of the subpart that is read, so one of the table's
class-inside : (t : Table) (k c : ℕ) → k < length t.subparts.now → IfSome (slice_get t.subparts.now k) (λ s. is_in c s ≡ true) → is_in c (slice_index_or t.subparts.now k no_span) ≡ true
class-inside t k c below class =
    MatchOption-at_some ⊤ (λ s. is_in c s ≡ true) (slice_index_or t.subparts.now k no_span) (slice_get-get_or t.subparts.now k no_span below) class

class-of : (t : Table) (k c : ℕ) → IsTable t → k < length t.subparts.now → IfSome (slice_get t.subparts.now k) (λ s. is_in c s ≡ true) → IsIn t c
class-of t k c table below class =
    let bounds = in-bounds c (slice_index_or t.subparts.now k no_span) (class-inside t k c below class) in
    class-in t k c (slice_index_or t.subparts.now k no_span) table (slice_get-get_or t.subparts.now k no_span below) bounds.0 bounds.1

pub overflow_sub-place : goal.overflow_sub-place
overflow_sub-place c = (class-of c.args.table.now c.args.part c.args.class c.requires.table c.requires.part c.requires.class).0

pub clear-requires-clause-from : goal.clear-requires-clause-from
clear-requires-clause-from c = (span-at c.args.table.now c.args.part no_span c.requires.table c.requires.part).0

pub clear-requires-clause-ordered : goal.clear-requires-clause-ordered
clear-requires-clause-ordered c = (span-at c.args.table.now c.args.part no_span c.requires.table c.requires.part).1

pub clear-requires-clause-within : goal.clear-requires-clause-within
clear-requires-clause-within c =
    let bounds = span-at c.args.table.now c.args.part no_span c.requires.table c.requires.part in
    omega (arith, c.copy_from_slice.ensures.len, c.requires.child.left, c.requires.table.sized.few)

pub clear-requires-2-clause-from : goal.clear-requires-2-clause-from
clear-requires-2-clause-from c = (span-at c.args.table.now c.args.part no_span c.requires.table c.requires.part).0

pub clear-requires-2-clause-ordered : goal.clear-requires-2-clause-ordered
clear-requires-2-clause-ordered c = (span-at c.args.table.now c.args.part no_span c.requires.table c.requires.part).1

pub clear-requires-2-clause-within : goal.clear-requires-2-clause-within
clear-requires-2-clause-within c =
    let bounds = span-at c.args.table.now c.args.part no_span c.requires.table c.requires.part in
    omega (arith, c.copy_from_slice-2.ensures.len, c.requires.child.to_come, c.requires.table.sized.few)

pub row-requires-clause-class : goal.row-requires-clause-class
row-requires-clause-class c = class-of c.args.table.now c.args.part c.args.class c.requires.table c.requires.part c.requires.class

pub returns-clause-child : goal.returns-clause-child
returns-clause-child c =
    let t = c.args.table.now in
    let l = c.args.level.now in
    let s = slice_index_or t.subparts.now c.args.part no_span in
    let at = slice_get-get_or t.subparts.now c.args.part no_span c.requires.part in
    let left_was : c.copy_from_slice.new.self ≡ l.left.items = c.copy_from_slice.ensures.after ∙ c.as_slice.ensures.value in
    let to_come_was : c.copy_from_slice-2.new.self ≡ l.to_come.items = c.copy_from_slice-2.ensures.after ∙ c.as_slice-2.ensures.value in
    let chosen_was : c.copy_from_slice-3.new.self ≡ l.chosen.items = c.copy_from_slice-3.ensures.after ∙ c.as_slice-5.ensures.value in
    let of_table : IsIn t c.args.class = class-of t c.args.part c.args.class c.requires.table c.requires.part c.requires.class in
    let small : c.args.class - t.first < length l.weights.items = omega (arith, of_table.0, of_table.1, c.requires.level.weights, c.requires.table.sized.few) in
    let weight : c.index.result.now ≡ slice_index_or l.weights.items (c.args.class - t.first) 0 = get_or_read l.weights.items (c.args.class - t.first) c.index.result.now small c.index.ensures 0 in
    let left_long : length c.clear.new.flags ≡ c.args.child.now.left.len = omega (arith, c.clear.auto.flags, c.copy_from_slice.ensures.len, c.as_mut_slice-left.ensures.len) in
    let to_come_long : length c.clear-2.new.flags ≡ c.args.child.now.to_come.len = omega (arith, c.clear-2.auto.flags, c.copy_from_slice-2.ensures.len, c.as_mut_slice-to_come.ensures.len) in
    let weights_long : length c.weigh.new.weights ≡ c.args.child.now.weights.len = omega (arith, c.weigh.auto.weights, c.as_mut_slice.ensures.len) in
    let chosen_long : length c.copy_from_slice-3.new.self ≡ c.args.child.now.chosen.len = omega (arith, c.copy_from_slice-3.ensures.len, c.as_mut_slice-chosen.ensures.len) in
    let child : Level = record {
      left = with_items c.args.child.now.left (slice_set c.clear.new.flags (c.args.class - t.first) true);
      to_come = with_items c.args.child.now.to_come c.clear-2.new.flags;
      weights = with_items c.args.child.now.weights c.weigh.new.weights;
      chosen = with_items c.args.child.now.chosen (slice_set c.copy_from_slice-3.new.self c.args.part (Some c.args.class));
      pairs = c.saturating_add-child.result;
    } in
    some-at (slice_get t.subparts.now c.args.part) s _ at
    (child-made t l child c.args.part s c.args.class c.clear.new.flags c.clear-2.new.flags c.row.result.now
    (class-inside t c.args.part c.args.class c.requires.part c.requires.class) of_table
    (omega (arith, c.clear.auto.flags, c.copy_from_slice.ensures.len, c.requires.child.left))
    c.row.ensures.len c.requires.table.sized.few
    c.clear.ensures.none
    (λ d from outside. c.clear.ensures.others d from outside ∙ ap (λ (xs : List Bool). slice_index_or xs (d - t.first) false) left_was)
    c.clear-2.ensures.none
    (λ d from outside. c.clear-2.ensures.others d from outside ∙ ap (λ (xs : List Bool). slice_index_or xs (d - t.first) false) to_come_was)
    c.row.ensures.row
    (take_at (slice_set c.clear.new.flags (c.args.class - t.first) true) _ _ (length-set c.clear.new.flags (c.args.class - t.first) true ∙ left_long))
    (take_at c.clear-2.new.flags _ _ to_come_long)
    (λ j less.
    let to_come_is : c.as_slice-3.result.now ≡ c.clear-2.new.flags = c.as_slice-3.ensures.value ∙ take_at c.clear-2.new.flags _ _ to_come_long in
    let weigh : slice_index_or c.weigh.new.weights j 0 ≤ cond (slice_index_or c.clear-2.new.flags j false) (slice_index_or l.weights.items j 0 + cond (slice_index_or c.row.result.now j false) 1 0) 0 =
    rw (← to_come_is, ← c.as_slice-4.ensures.value) (c.weigh.ensures j less) in
    rw (take_at c.weigh.new.weights _ _ weights_long) weigh)
    (take_at (slice_set c.copy_from_slice-3.new.self c.args.part (Some c.args.class)) _ _ (length-set c.copy_from_slice-3.new.self c.args.part (Some c.args.class) ∙ chosen_long)
    ∙ ap (λ (xs : List (Option ℕ)). slice_set xs c.args.part (Some c.args.class)) chosen_was)
    (omega (arith, c.saturating_add-child.ensures, weight)))
