-- The sums of a plan are those of its totals.
use Rattle.std.proofs.Common.{◌≡◌, ℕ, List, ◌++◌, length, refl}
use Rattle.tt_problem.specs.declared.parts.Parts.{Parts}
use Rattle.tt_verify.specs.declared.sums.Sums.{Sums}
use Rattle.tt_published.specs.Timetable.{Timetable}
use Rattle.tt_verify.specs.declared.violation.Violation.{Violation}
use Rattle.tt_verify.specs.Lines.{violation_lines, sum_line, verdict_line}
use Rattle.tt_verify.specs.Verified.{verified_text}
use Rattle.tt_verify.specs.Violations.{violations_of}
use Rattle.tt_verify.specs.Found.{sums_of, timetable_totals, totals_with}

-- what is written of all that was found
pub text_is : (p : Parts) (t : Timetable) (found : List Violation) (s : Sums) (hard count : ℕ) → found ≡ violations_of p t → s ≡ sums_of (timetable_totals p t) → hard ≡ (timetable_totals p t).hard → count ≡ length (violations_of p t)
    → violation_lines p found ++ sum_line (totals_with s hard) ++ verdict_line count ≡ verified_text p t
unfolding verified_text sum_line
text_is p t found s hard count is sums are long = rw (is, sums, are, long) refl
