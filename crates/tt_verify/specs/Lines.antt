-- Theorem. How violations and sums are written.
use Rattle.std.specs.Prelude.{ℕ, ◌+◌, ◌==◌, List, ◌++◌, codes, if◌then◌else◌}
use Rattle.std.specs.List.{flat_map}
use Rattle.tt_problem.specs.declared.parts.Parts.{Parts}
use Rattle.tt_problem.specs.Places.{class_id, student_id}
use Rattle.tt_text.specs.Fields.{field}
use Rattle.tt_score.specs.declared.totals.Totals.{Totals}
use Rattle.tt_verify.specs.declared.violation.Violation.{Violation}
use Rattle.tt_verify.specs.declared.violation.Violation.TheVariants as what

-- a text and the id of a class
unfoldable pub class_text : List ℕ → Parts → (class : ℕ) → List ℕ
class_text text p class = field text (class_id p class)

-- the line on a violation. Rules are counted from 1
unfoldable pub violation_line : Parts → Violation → List ℕ
violation_line p (what.Missing class) = class_text (codes "class ") p class ++ codes " missing\n"
violation_line p (what.Outside class) = class_text (codes "class ") p class ++ codes " outside\n"
violation_line p (what.Invalid student) = field (codes "student ") (student_id p student) ++ codes " invalid\n"
violation_line p (what.Over class students) = class_text (codes "class ") p class ++ field (codes " over ") students ++ codes "\n"
violation_line p (what.Clash class other) = class_text (codes "clash ") p class ++ class_text (codes " ") p other ++ codes "\n"
violation_line p (what.Closed class) = class_text (codes "closed ") p class ++ codes "\n"
violation_line p (what.Pair rule class other) =
    field (codes "rule ") (rule + 1) ++ (class_text (codes " pair ") p class ++ class_text (codes " ") p other ++ codes "\n")
violation_line p (what.Amount rule amount) = field (codes "rule ") (rule + 1) ++ field (codes " amount ") amount ++ codes "\n"

-- a line for each violation, in order
unfoldable pub violation_lines : Parts → List Violation → List ℕ
violation_lines p violations = flat_map (violation_line p) violations

-- the line on these totals: the penalties, their weighted sum, and the hard conflicts
unfoldable pub sum_line : Totals → List ℕ
sum_line t =
    field (codes "sum time ") t.time
    ++ field (codes " room ") t.room
    ++ field (codes " distribution ") t.distribution
    ++ field (codes " student ") t.student
    ++ field (codes " total ") t.total
    ++ field (codes " hard ") t.hard
    ++ codes "\n"

-- the line on how many violations there are
abbrev pub number_line : ℕ → List ℕ
number_line count = field (codes "violations ") count ++ codes "\n"

-- the last line, by the number of violations
unfoldable pub verdict_line : ℕ → List ℕ
verdict_line count = if count == 0 then codes "valid\n" else number_line count
