use Rattle.std.proofs.Common.{◌≡◌, ◌∙◌, ◌<◌, ◌^◌, true, false, count_by, length, [], ◌∷◌, ap, rules, arith}
use Rattle.std.proofs.lemmas.List.Elements.{All-rest}
use Rattle.tt_pool.proofs.PlaceLemmas.{count_step}
use Rattle.tt_occupancy.specs.Rooms.{classes_in}
use Rattle.tt_occupancy.specs.Clashes.{clashes_in_room}
use Rattle.tt_occupancy.proofs.ClashLemmas.{few_clash_count}
use Rattle.tt_occupancy.proofs.RoomLemmas.{clash_count-in_room, classes-within}
use Rattle.tt_occupancy.proofs.Occupancy.clashes_with.Goals as goal

pub returns-in_default : goal.returns-in_default
returns-in_default c =
    let nobody : [] ≡ classes_in c.args.self.now.spots c.args.spot.room = search rules in
    ap (count_by (clashes_in_room c.args.self.now.spots c.args.except c.args.spot)) nobody ∙ clash_count-in_room c.args.self.now.spots c.args.spot c.args.except

pub loop-class-init : goal.loop-class-init
loop-class-init c =
    let all : c.into_iter-class-iterator.result ≡ classes_in c.args.self.now.spots c.args.spot.room = search rules in
    record {
      counted = rw all (omega (arith, clash_count-in_room c.args.self.now.spots c.args.spot c.args.except));
      within = rw all (classes-within c.args.self.now.spots c.args.spot.room);
    }

pub overflow_add-count : goal.overflow_add-count
overflow_add-count c =
    let next : c.loop-class.class-iterator ≡ c.in-Some-class.class ∷ c.next.new.self = search rules in
    let passes : clashes_in_room c.args.self.now.spots c.args.except c.args.spot c.in-Some-class.class ≡ true = search rules in
    let step = count_step (clashes_in_room c.args.self.now.spots c.args.except c.args.spot) _ _ _ true next passes in
    let few : length c.args.self.now.spots < 2 ^ 32 = search rules in
    omega (arith, step, c.loop-class.invariant.counted, few_clash_count c.args.self.now.spots c.args.spot c.args.except, few)

pub loop-class-preserved-then-clashes_in_room : goal.loop-class-preserved-then-clashes_in_room
loop-class-preserved-then-clashes_in_room c =
    let next : c.loop-class.class-iterator ≡ c.in-Some-class.class ∷ c.next.new.self = search rules in
    let passes : clashes_in_room c.args.self.now.spots c.args.except c.args.spot c.in-Some-class.class ≡ true = search rules in
    record {
      counted = omega (arith, count_step (clashes_in_room c.args.self.now.spots c.args.except c.args.spot) _ _ _ true next passes, c.loop-class.invariant.counted);
      within = All-rest (λ class. class < length c.args.self.now.spots) _ _ _ next c.loop-class.invariant.within;
    }

pub loop-class-preserved : goal.loop-class-preserved
loop-class-preserved c =
    let next : c.loop-class.class-iterator ≡ c.in-Some-class.class ∷ c.next.new.self = search rules in
    let fails : clashes_in_room c.args.self.now.spots c.args.except c.args.spot c.in-Some-class.class ≡ false = search rules in
    record {
      counted = omega (arith, count_step (clashes_in_room c.args.self.now.spots c.args.except c.args.spot) _ _ _ false next fails, c.loop-class.invariant.counted);
      within = All-rest (λ class. class < length c.args.self.now.spots) _ _ _ next c.loop-class.invariant.within;
    }
