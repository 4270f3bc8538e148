use Rattle.std.proofs.Common.{◌≡◌, ◌∙◌, Bool, List, length, take, refl, ap, subst, arith}
use Rattle.std.specs.Vec.{with_items}
use Rattle.std.proofs.lemmas.List.{with_items_is}
use Rattle.std.proofs.lemmas.List.Elements.{All-cons}
use Rattle.tt_least.specs.declared.level.Level.{Level}
use Rattle.tt_least.specs.Nodes.{HasPlaces, IsLeft}
use Rattle.tt_least.specs.Results.{IsNarrowed, NoneWithin}
use Rattle.tt_least.proofs.NarrowLemmas.{node-narrowed, places-narrowed}
use Rattle.tt_least.proofs.SeekLemmas.{count-few, first-and-rest, unchosen-narrowed, vain-none, within-more}
use Rattle.tt_least.proofs.search.exists.Goals as goal

pub start-requires : goal.start-requires
start-requires c =
    let both = first-and-rest (HasPlaces c.args.table.now.size) c.args.levels.now c.in-Some.root.now c.in-Some.deeper.now c.in-Some.ensures.cases.0 c.requires.levels in
    record { table = c.requires.table; places = both.0; left = c.requires.left }

pub drop_dominated-requires : goal.drop_dominated-requires
drop_dominated-requires c = record { table = c.requires.table; left = ap (λ (flags : List Bool). length flags) c.as_mut_slice.ensures.value ∙ c.start.ensures.places.left }

pub seek-requires : goal.seek-requires
seek-requires c =
    let table = c.args.table.now in
    let start = c.start.new.level in
    let dropped = c.drop_dominated.new.left in
    let new : Level = record start { left = with_items start.left dropped } in
    let same : new.left.items ≡ dropped = with_items_is start.left dropped (c.drop_dominated.auto.left ∙ c.as_mut_slice.ensures.len) in
    let value : c.as_mut_slice.result.now ≡ start.left.items = c.as_mut_slice.ensures.value in
    let narrowed : IsNarrowed table c.args.limit start new = unchosen-narrowed table c.args.limit start new refl
    (ap (λ (flags : List Bool). length flags) same ∙ c.drop_dominated.auto.left ∙ ap (λ (flags : List Bool). length flags) value) c.start.ensures.none
    (λ choice left. subst (λ (flags : List Bool). IsLeft table flags choice) value
    (c.drop_dominated.ensures.within choice (subst (λ (flags : List Bool). IsLeft table flags choice) same left)))
    (λ none. subst (λ (flags : List Bool). NoneWithin table flags c.args.limit) value
    (c.drop_dominated.ensures.none c.args.limit (subst (λ (flags : List Bool). NoneWithin table flags c.args.limit) same none))) in
    let both = first-and-rest (HasPlaces table.size) c.args.levels.now c.in-Some.root.now c.in-Some.deeper.now c.in-Some.ensures.cases.0 c.requires.levels in
    record {
      table = c.requires.table;
      few = c.requires.few;
      ready = c.requires.ready;
      places = places-narrowed table c.args.limit table.size start new narrowed c.start.ensures.places;
      node = node-narrowed table c.args.limit start new narrowed c.start.ensures.node;
      deeper = both.1;
      room = omega (arith, count-few table new, c.requires.room, c.in-Some.ensures.cases.1);
    }

pub returns : goal.returns
returns c =
    let table = c.args.table.now in
    let start = c.start.new.level in
    let dropped = c.drop_dominated.new.left in
    let new : Level = record start { left = with_items start.left dropped } in
    let same : new.left.items ≡ dropped = with_items_is start.left dropped (c.drop_dominated.auto.left ∙ c.as_mut_slice.ensures.len) in
    let value : c.as_mut_slice.result.now ≡ c.args.left.now = c.as_mut_slice.ensures.value ∙ c.start.ensures.left in
    let found = take (length table.subparts.now) c.seek.new.scratch.best.items in
    record {
      ready = c.seek.ensures.ready;
      levels = All-cons (HasPlaces table.size) c.seek.new.level c.seek.new.deeper c.seek.ensures.places c.seek.ensures.deeper;
      some = λ e. within-more table new.left.items c.args.left.now c.args.limit found
          (λ left. subst (λ (flags : List Bool). IsLeft table flags found) value
          (c.drop_dominated.ensures.within found (subst (λ (flags : List Bool). IsLeft table flags found) same left)))
          (c.seek.ensures.some e);
      none = λ e. subst (λ (flags : List Bool). NoneWithin table flags c.args.limit) value
          (c.drop_dominated.ensures.none c.args.limit
          (subst (λ (flags : List Bool). NoneWithin table flags c.args.limit) same (vain-none table new c.args.limit c.start.ensures.none (c.seek.ensures.none e))));
      best = c.seek.ensures.best;
    }
