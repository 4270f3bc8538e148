-- Theorem. What the check of a published timetable writes.
use Rattle.std.specs.Prelude.{ℕ, List, [], ◌++◌, length}
use Rattle.tt_problem.specs.declared.parts.Parts.{Parts}
use Rattle.tt_score.specs.Totals.{totals_of}
use Rattle.tt_published.specs.Published.{published_plan}
use Rattle.tt_published.specs.Timetable.{Timetable}
use Rattle.tt_verify.specs.Violations.{violations_of}
use Rattle.tt_verify.specs.Lines.{violation_lines, sum_line, verdict_line}

-- what is written of a timetable: all that is wrong with it, the totals of its plan and of its lists, and the last line
unfoldable pub verified_text : Parts → Timetable → List ℕ
verified_text p t =
    violation_lines p (violations_of p t)
    ++ sum_line (totals_of p [] (published_plan p t) t.lists)
    ++ verdict_line (length (violations_of p t))
