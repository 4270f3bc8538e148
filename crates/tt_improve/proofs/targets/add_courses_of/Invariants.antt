use Rattle.std.proofs.Common.{◌≡◌, ◌++◌, map, take}
use Rattle.tt_improve.specs.declared.targets.Target.TheVariants.{Course}
use Rattle.tt_improve.proofs.targets.add_courses_of.Given as goal

abbrev pub invariant-loop-course : goal.invariant-loop-course
invariant-loop-course l = l.targets.items ≡ l.initial.targets.items ++ map (Course l.student) (take l.course-index l.course-items)
