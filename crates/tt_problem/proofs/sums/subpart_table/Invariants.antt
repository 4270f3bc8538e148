use Rattle.std.proofs.Common.{◌≡◌, take, map}
use Rattle.tt_problem.specs.ListLengths.{most_of_course}
use Rattle.tt_problem.proofs.sums.subpart_table.Given as goal

abbrev pub invariant-loop-course : goal.invariant-loop-course
invariant-loop-course l = l.subparts.items ≡ map (most_of_course l.parts) (take l.course-index l.parts.courses)
