-- Contract. What a search or a suggestion keeps to: a published timetable, or nothing.
use Rattle.std.specs.Prelude.{Option}
use Rattle.std.specs.Option.{ForSome}
use Rattle.tt_problem.specs.declared.parts.Parts.{Parts}
use Rattle.tt_published.specs.Timetable.{IsTimetableOf, Timetable}

-- the timetable belongs to the problem, if there is one
abbrev pub IsAimOf : Parts → Option Timetable → Type 0
IsAimOf p aim = ForSome aim (IsTimetableOf p)
