use Rattle.std.proofs.Common.{◌≡◌, ◌∙◌, ◌+◌, ◌*◌, ◌<◌, ◌≤◌, Some, true, false, length, refl, sym, arith, rules}
use Rattle.std.specs.Prelude.{slice_set, ◌==◌}
use Rattle.std.specs.List.{remove, position_or_len}
use Rattle.tt_base.specs.Sets.{has}
use Rattle.tt_bits.specs.Sets.{day_set}
use Rattle.tt_pool.specs.Pools.{list_at}
use Rattle.tt_occupancy.proofs.RoomDayLemmas.{AreOnDays-goes, AreOnDays-leave, turned-none, below-none, below-more, meets, listed_on, leave-step, leave-skip}
use Rattle.tt_occupancy.proofs.leave_days.Goals as goal
use Rattle.tt_occupancy.proofs.leave_days.Goals.{then-has, else-has}

pub returns-in_default-clause-listed : goal.returns-in_default-clause-listed
returns-in_default-clause-listed c = AreOnDays-goes _ _ c.args.spot _ c.requires.listed c.requires.place (search rules)

pub loop-day-init : goal.loop-day-init
loop-day-init c = record {
  turned = turned-none c.args.spots.now _ _ c.requires.listed;
  spare = omega (arith, below-none (Some c.args.spot));
  rooms = refl;
}

pub remove_item-requires-clause-found : goal.remove_item-requires-clause-found
remove_item-requires-clause-found c =
    let on : has (day_set c.args.spot.time.days) c.loop-day.day ≡ true = search rules in
    rw c.from.ensures (listed_on c.args.spots.now c.args.class c.args.spot c.in-Some.room c.loop-day.day c.loop-day.by_day c.requires.place c.in-Some.is
    (omega (arith, c.loop-day-test.true)) on c.loop-day.invariant.turned)

pub loop-day-preserved : goal.loop-day-preserved
loop-day-preserved c =
    let before = c.loop-day.invariant in
    let x = c.args.spot in
    let day = c.loop-day.day in
    let room = c.in-Some.room in
    let list = room * 7 + day in
    let at : day < 7 = omega (arith, c.loop-day-test.true) in
    elim c.if-has.branch [
      | then-has w ↦
          let on : has (day_set x.time.days) day ≡ true = sym c.has.ensures ∙ w.if-has.true in
          let last : room * 7 + 7 ≤ length c.args.by_day.now.lists = search rules in
          let within : list < length c.loop-day.by_day.lists = omega (arith, last, at, before.rooms) in
          let next = below-more day (Some x) true (meets x room day true c.in-Some.is on) in
          let lists : w.remove_item.new.self.lists ≡ slice_set c.loop-day.by_day.lists list (remove (list_at c.loop-day.by_day list) (position_or_len (λ y. y == c.args.class) (list_at c.loop-day.by_day list))) = rw w.from.ensures at w.remove_item.ensures.lists in
          rw w.by_day-is (record {
            turned = leave-step c.args.spots.now c.args.class x room day c.loop-day.by_day _ c.requires.place c.in-Some.is at within on lists before.turned;
            spare = omega (arith, next, before.spare, w.remove_item.ensures.spare);
            rooms = search rules;
          })
      | else-has w ↦
          let off : has (day_set x.time.days) day ≡ false = sym c.has.ensures ∙ w.if-has.false in
          rw w.by_day-is (record {
            turned = leave-skip c.args.spots.now c.args.class x day c.loop-day.by_day c.requires.place off before.turned;
            spare = omega (arith, below-more day (Some x) false (meets x room day false c.in-Some.is off), before.spare);
            rooms = before.rooms;
          })
    ]

pub returns-clause-listed : goal.returns-clause-listed
returns-clause-listed c =
    let before = c.loop-day.invariant in
    AreOnDays-leave c.args.spots.now c.args.class c.args.spot c.loop-day.day c.args.by_day.now c.loop-day.by_day c.requires.listed c.requires.place
    (omega (arith, c.loop-day-test.false)) (search rules) before.spare before.turned
