use Rattle.std.proofs.Common.{rules, ◌≡◌, ℕ, ◌-◌, ◌<◌, length, get_or, length-set, arith, refl, ◌∙◌}
use Rattle.tt_least.specs.declared.table.Table.{Table}
use Rattle.tt_least.specs.declared.groups.Groups.{Groups}
use Rattle.tt_least.specs.Judged.{IsTable}
use Rattle.tt_least.specs.Prices.{AreGroups}
use Rattle.tt_least.proofs.ChoiceLemmas.{span-at}
use Rattle.tt_least.proofs.LeastLemmas.{no-span}
use Rattle.tt_least.proofs.change.note.Goals as goal
use Rattle.tt_least.proofs.change.note.Goals.{then-costs-place+in-None, then-costs-place+in-Some+then-first, then-costs-place+in-Some+else-first, else-costs-place}

-- the group of a class of a subpart has a place
group-below : (t : Table) (g : Groups) (k place group : ℕ) → IsTable t → AreGroups t g → k < length t.subparts.now
    → place < (get_or t.subparts.now k no-span).after - t.first → group ≡ get_or g.group_of.items place group → group < t.size
group-below t g k place group table groups there within is =
    let span = span-at t k no-span table there in
    let below = groups.below place group (omega (arith, span.2, within, groups.room.groups, table.sized.few)) in
    omega (arith, below, is)

-- groups stay groups where only the numbers of the cheapest classes in them change
noted : (t : Table) (old new : Groups) → AreGroups t old → new.group_of ≡ old.group_of → new.names ≡ old.names → new.count ≡ old.count
    → new.prices ≡ old.prices → new.owed ≡ old.owed → new.alone ≡ old.alone → length new.among.items ≡ t.size → AreGroups t new
noted t old new groups group_of names count prices owed alone among = record {
  room = record {
    groups = rw group_of groups.room.groups;
    names = rw names groups.room.names;
    prices = rw prices groups.room.prices;
    alone = rw alone groups.room.alone;
    among = among;
  };
  few = rw prices groups.few;
  owed = rw (owed, prices) groups.owed;
  below = rw group_of groups.below;
  names = rw names groups.names;
  listed = rw count groups.listed;
  each = rw group_of groups.each;
}

pub overflow_sub-place : goal.overflow_sub-place
overflow_sub-place c = (span-at c.args.table.now c.args.part no-span c.requires.table c.requires.part).0

pub overflow_sub-place-end : goal.overflow_sub-place-end
overflow_sub-place-end c =
    let span = span-at c.args.table.now c.args.part no-span c.requires.table c.requires.part in
    omega (arith, span.0, span.1)

pub bounds-costs-place : goal.bounds-costs-place
bounds-costs-place c =
    let span = span-at c.args.table.now c.args.part no-span c.requires.table c.requires.part in
    omega (arith, span.2, c.loop-place-test.true, c.requires.costs, c.requires.table.sized.few)

pub index-group-requires : goal.index-group-requires
index-group-requires c =
    let span = span-at c.args.table.now c.args.part no-span c.requires.table c.requires.part in
    omega (arith, span.2, c.loop-place-test.true, c.loop-place.invariant.groups.room.groups, c.requires.table.sized.few)

pub index-among-requires : goal.index-among-requires
index-among-requires c =
    let groups = c.loop-place.invariant.groups in
    let small = group-below c.args.table.now c.loop-place.groups c.args.part c.loop-place.place c.index-group.result.now c.requires.table groups c.requires.part c.loop-place-test.true c.index-group.ensures in
    omega (arith, small, groups.room.among)

pub index_mut-requires : goal.index_mut-requires
index_mut-requires c =
    let groups = c.loop-place.invariant.groups in
    let small = group-below c.args.table.now c.loop-place.groups c.args.part c.loop-place.place c.index-group.result.now c.requires.table groups c.requires.part c.loop-place-test.true c.index-group.ensures in
    omega (arith, small, groups.room.among)

pub loop-place-preserved : goal.loop-place-preserved
loop-place-preserved c = elim c.if-costs-place.branch [
  | then-costs-place+in-None w ↦
      let small = group-below c.args.table.now c.loop-place.groups c.args.part c.loop-place.place w.index-group.result.now c.requires.table c.loop-place.invariant.groups c.requires.part c.loop-place-test.true w.index-group.ensures in
      record {
        groups = rw w.groups-is (noted c.args.table.now c.loop-place.groups _ c.loop-place.invariant.groups refl refl refl refl refl refl
            (length-set c.loop-place.groups.among.items w.index-group.result.now w.saturating_add.result ∙ c.loop-place.invariant.groups.room.among));
        found = rw w.found-is small;
      }
  | then-costs-place+in-Some+then-first w ↦ record {
    groups = rw w.groups-is (noted c.args.table.now c.loop-place.groups _ c.loop-place.invariant.groups refl refl refl refl refl refl
        (length-set c.loop-place.groups.among.items w.index-group.result.now w.saturating_add.result ∙ c.loop-place.invariant.groups.room.among));
    found = search rules;
  }
  | then-costs-place+in-Some+else-first w ↦ record {
    groups = rw w.groups-is (noted c.args.table.now c.loop-place.groups _ c.loop-place.invariant.groups refl refl refl refl refl refl
        (length-set c.loop-place.groups.among.items w.index-group.result.now w.saturating_add.result ∙ c.loop-place.invariant.groups.room.among));
    found = search rules;
  }
  | else-costs-place w ↦ record { groups = rw w.groups-is c.loop-place.invariant.groups; found = rw w.found-is c.loop-place.invariant.found }
]
