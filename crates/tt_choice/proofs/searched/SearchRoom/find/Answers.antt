use Rattle.std.proofs.Common.{◌≡◌, ◌∙◌, ◌+◌, ◌-◌, ◌≤◌, Bool, List, length, ap, refl, sym, arith}
use Rattle.tt_least.specs.declared.table.Table.{Table}
use Rattle.tt_least.specs.Choices.{AreApart}
use Rattle.tt_least.specs.Searches.{found_in}
use Rattle.tt_choice.specs.Least.{Situation}
use Rattle.tt_choice.specs.Searched.{IsFilled, AreSeated}
use Rattle.tt_choice.specs.Standings.{situation_in}
use Rattle.tt_choice.proofs.SearchedLemmas.{apart-ascends, borrowed-filled, flags-seated, filled-mutual, found-first, found-pairs, none-adds}
use Rattle.tt_choice.proofs.searched.SearchRoom.find.Goals as goal

-- src/searched.rt:195:21
pub overflow_sub-count : goal.overflow_sub-count
overflow_sub-count c = apart-ascends c.args.classes.first c.args.classes.after c.args.subparts.now c.requires.apart

-- src/searched.rt:196:9
pub fill-requires-clause-few : goal.fill-requires-clause-few
fill-requires-clause-few c = omega (arith, apart-ascends c.args.classes.first c.args.classes.after c.args.subparts.now c.requires.apart)

-- src/searched.rt:206:9
pub least-requires-clause-table : goal.least-requires-clause-table
least-requires-clause-table c =
    let s = situation_in c.args.standing.now in
    let first = c.args.classes.first in
    let after = c.args.classes.after in
    let room = c.fill.new.self in
    let t : Table = record {
      subparts = c.args.subparts;
      first = first;
      count = after - first;
      size = c.len.result;
      weights = c.as_slice.result;
      parents = c.as_slice-2.result;
      conflicts = c.as_slice-3.result;
    } in
    let up : first ≤ after = apart-ascends first after c.args.subparts.now c.requires.apart in
    let size : c.len.result ≡ length room.weights.items = c.len.ensures ∙ sym c.as_slice.ensures.len ∙ ap length c.as_slice.ensures.value in
    let filled : IsFilled s t = borrowed-filled s t room.weights.items room.parents.items room.conflicts.items c.as_slice.ensures.value c.as_slice-2.ensures.value c.as_slice-3.ensures.value size
    c.fill.ensures.weights c.fill.ensures.parents c.fill.ensures.conflicts in
    let end : first + (after - first) ≡ after = omega arith in
    record {
      sized = record {
        few = omega (arith, size, c.fill.ensures.size, c.requires.place.within);
        small = omega (arith, size, c.fill.ensures.room.search.few);
        below = omega (arith, end, c.requires.few_classes);
        weights = rw (c.as_slice.ensures.value, size) refl;
        parents = rw (c.as_slice-2.ensures.value, size) c.fill.ensures.room.parents;
        conflicts = rw (c.as_slice-3.ensures.value, size) c.fill.ensures.room.conflicts;
      };
      both_ways = filled-mutual s t filled;
      apart = rw end c.requires.apart;
      few = omega (arith, size, c.fill.ensures.size, c.requires.place.few);
    }

-- what the table that is searched says
module _ (c : goal.After-least) where
  abbrev s : Situation
  s = situation_in c.args.standing.now

  abbrev t : Table
  t = record {
    subparts = c.args.subparts;
    first = c.args.classes.first;
    count = c.args.classes.after - c.args.classes.first;
    size = c.len.result;
    weights = c.as_slice.result;
    parents = c.as_slice-2.result;
    conflicts = c.as_slice-3.result;
  }

  abbrev left : List Bool
  left = c.fill.new.self.search.left.items

  filled : IsFilled s t
  filled =
      let room = c.fill.new.self in
      borrowed-filled s t room.weights.items room.parents.items room.conflicts.items c.as_slice.ensures.value c.as_slice-2.ensures.value c.as_slice-3.ensures.value
      (c.len.ensures ∙ sym c.as_slice.ensures.len ∙ ap length c.as_slice.ensures.value) c.fill.ensures.weights c.fill.ensures.parents c.fill.ensures.conflicts

  seated : AreSeated s t left
  seated = flags-seated s t left c.fill.ensures.seats

  apart : AreApart c.args.classes.first c.args.subparts.now (c.args.classes.first + (c.args.classes.after - c.args.classes.first))
  apart =
      let up = apart-ascends c.args.classes.first c.args.classes.after c.args.subparts.now c.requires.apart in
      let end : c.args.classes.first + (c.args.classes.after - c.args.classes.first) ≡ c.args.classes.after = omega arith in
      rw end c.requires.apart

-- src/searched.rt:171:5
pub returns-clause-first : goal.returns-clause-first
returns-clause-first c = found-first (s c) (t c) (left c) (filled c) (seated c) (apart c) c.requires.lacks (found_in (t c) c.least.new.search) c.least.result c.least.ensures.least

-- src/searched.rt:171:5
pub returns-clause-pairs : goal.returns-clause-pairs
returns-clause-pairs c =
    found-pairs (s c) (t c) (left c) (filled c) (seated c) (apart c) c.requires.lacks (found_in (t c) c.least.new.search) c.least.result c.least.ensures.least c.least.ensures.pairs

-- src/searched.rt:171:5
pub returns-clause-none : goal.returns-clause-none
returns-clause-none c is = none-adds (s c) (t c) (left c) (filled c) (seated c) (apart c) c.requires.lacks c.args.most (c.least.ensures.none is)
