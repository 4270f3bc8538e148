use Rattle.std.proofs.Common.{◌<◌, [], length, arith}
use Rattle.tt_roster.specs.Lists.{list_of}
use Rattle.tt_verify.proofs.PlanLemmas.{below_end, length-ascends, rooms_fit}
use Rattle.tt_verify.proofs.students.student_conflicts.Goals as goal

pub conflicts_in-count-requires-clause-rooms : goal.conflicts_in-count-requires-clause-rooms
conflicts_in-count-requires-clause-rooms c =
    rw c.travel-travel.ensures (rooms_fit c.args.problem.now c.args.spots.now c.validity.ensures.travel_rooms c.requires.fit)

pub conflicts_in-count-requires-clause-within : goal.conflicts_in-count-requires-clause-within
conflicts_in-count-requires-clause-within c =
    let t = c.args.published.now in
    let k = c.loop-student.student in
    let within : k < length t.lists = omega arith in
    rw (c.requires.whole, c.classes_of-list.ensures) (below_end 0 (length c.args.problem.now.classes) (list_of t.lists k) (c.requires.belongs.each k [] within))

pub conflicts_in-count-requires-clause-few : goal.conflicts_in-count-requires-clause-few
conflicts_in-count-requires-clause-few c =
    let t = c.args.published.now in
    let k = c.loop-student.student in
    let within : k < length t.lists = omega arith in
    let few = c.validity.ensures.few_classes in
    let long = length-ascends (length c.args.problem.now.classes) (list_of t.lists k) (c.requires.belongs.each k [] within) in
    rw c.classes_of-list.ensures (omega (arith, few, long))
