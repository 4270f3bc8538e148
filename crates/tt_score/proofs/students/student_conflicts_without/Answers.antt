use Rattle.std.proofs.Common.{◌≡◌, ◌∙◌, ◌-◌, ◌≤◌, None, ap}
use Rattle.std.specs.Prelude.{slice_set}
use Rattle.tt_roster.specs.Rostered.{Rostered}
use Rattle.tt_roster.specs.Conflicts.{student_conflicts}
use Rattle.tt_score.proofs.RosterLemmas.{without}
use Rattle.tt_score.proofs.students.student_conflicts_without.Goals as goal
use Rattle.tt_score.proofs.students.student_conflicts_without.Goals.{After-conflicts}

-- what the class has at its spot, and the rest
rest : (c : After-conflicts)
    → (c.held_conflicts-less.result ≤ c.conflicts.result) × (c.conflicts.result - c.held_conflicts-less.result ≡ student_conflicts c.args.problem.now.travel (slice_set c.args.roster.now.spots c.args.class None) c.args.roster.now.seats)
rest c =
    without c.args.problem.now c.args.roster.now c.args.class c.args.has c.held_conflicts-less.result c.conflicts.result c.validity.ensures c.requires.roster c.requires.class c.requires.has
    (c.conflicts.ensures.kept ∙ ap (λ (r : Rostered). r.conflicts) (c.roster.ensures ∙ c.held_conflicts-less.ensures.same)) c.held_conflicts-less.ensures.pairs

pub overflow_sub-result : goal.overflow_sub-result
overflow_sub-result c = (rest (goal.at.overflow_sub-result c).After-conflicts).0

pub returns-clause-conflicts : goal.returns-clause-conflicts
returns-clause-conflicts c = (rest (goal.at.returns-clause-conflicts c).After-conflicts).1
