use Rattle.std.proofs.Common.{◌≡◌, ◌+◌, ◌<◌, length, count_by, All}
use Rattle.tt_occupancy.specs.Clashes.{clashes_in_room, clash_count}
use Rattle.tt_occupancy.proofs.Occupancy.clashes_with.Given as goal

abbrev pub invariant-loop-class : goal.invariant-loop-class
invariant-loop-class l = record {
  counted : l.count + count_by (clashes_in_room l.fn.self.spots l.except l.spot) l.class-iterator ≡ clash_count l.fn.self.spots l.spot l.except;
  within : All (λ class. class < length l.fn.self.spots) l.class-iterator;
}
