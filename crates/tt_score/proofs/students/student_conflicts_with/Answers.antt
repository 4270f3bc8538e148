use Rattle.std.proofs.Common.{◌≡◌, ◌+◌, ◌*◌, ◌≤◌, Some, arith}
use Rattle.std.specs.Prelude.{slice_set}
use Rattle.tt_roster.specs.Conflicts.{student_conflicts}
use Rattle.tt_roster.proofs.KeptLemmas.{room_is}
use Rattle.tt_score.proofs.RosterLemmas.{moved}
use Rattle.tt_score.proofs.students.student_conflicts_with.Goals as goal
use Rattle.tt_score.proofs.students.student_conflicts_with.Goals.{After-class_gain}

-- the conflicts with the class at the other spot
after : (c : After-class_gain)
    → (c.student_conflicts_without-others.result + c.class_gain.result ≡ student_conflicts c.args.problem.now.travel (slice_set c.args.roster.now.spots c.args.class (Some c.args.spot)) c.args.roster.now.seats)
    × (c.student_conflicts_without-others.result + c.class_gain.result ≤ 4000000 * 4000000)
after c =
    moved c.args.problem.now c.args.roster.now c.args.class c.args.spot c.student_conflicts_without-others.result c.class_gain.result c.validity.ensures c.requires.roster c.requires.class
    (room_is c.args.problem.now c.args.spot c.args.spot.room c.validity.ensures c.requires.room) c.student_conflicts_without-others.ensures.conflicts (rw c.student_conflicts_without-others.ensures.same at c.class_gain.ensures.pairs)

pub overflow_add-result : goal.overflow_add-result
overflow_add-result c = omega (arith, (after (goal.at.overflow_add-result c).After-class_gain).1)

pub returns-clause-conflicts : goal.returns-clause-conflicts
returns-clause-conflicts c = (after (goal.at.returns-clause-conflicts c).After-class_gain).0
