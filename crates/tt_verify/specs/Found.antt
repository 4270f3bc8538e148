-- Proof. What is found of a published timetable, step by step.
use Rattle.std.specs.Prelude.{ℕ, ◌==◌, List, [], ◌∷◌, ◌++◌, Option, length, map, count_by, if◌then◌else◌}
use Rattle.std.specs.List.{flat_map, range_with_len}
use Rattle.tt_base.specs.Lists.{is_listed}
use Rattle.tt_bits.specs.declared.times.Value.{Value}
use Rattle.tt_problem.specs.declared.parts.Parts.{Parts}
use Rattle.tt_score.specs.declared.totals.Totals.{Totals}
use Rattle.tt_score.specs.Totals.{totals_of}
use Rattle.tt_published.specs.Published.{published_plan}
use Rattle.tt_published.specs.Timetable.{Timetable}
use Rattle.tt_verify.specs.declared.sums.Sums.{Sums}
use Rattle.tt_verify.specs.declared.violation.Violation.{Violation}
use Rattle.tt_verify.specs.declared.violation.Violation.TheVariants as what
use Rattle.tt_verify.specs.Violations.{class_fault, list_fault, limit_fault}

-- what is wrong with the listed classes and with the lists of the students, where the classes have the values of a plan
unfoldable pub listing_faults : Parts → Timetable → List (Option Value) → List Violation
listing_faults p t plan =
    flat_map (class_fault t plan) (range_with_len 0 (length p.classes))
    ++ flat_map (list_fault p t.lists) (range_with_len 0 (length p.students))
    ++ flat_map (λ class. limit_fault p class (count_by (is_listed class) t.lists)) (range_with_len 0 (length p.classes))

-- pairs of members that break the rule at a place
unfoldable pub pair_faults : (place : ℕ) → List (ℕ × ℕ) → List Violation
pair_faults place pairs = map (λ c. what.Pair place c.0 c.1) pairs

-- the amount of the rule at a place, where it is above 0
unfoldable pub amount_faults : (place amount : ℕ) → List Violation
amount_faults place amount = if amount == 0 then [] else what.Amount place amount ∷ []

-- the totals of a timetable, those of its plan and of its lists
abbrev pub timetable_totals : Parts → Timetable → Totals
timetable_totals p t = totals_of p [] (published_plan p t) t.lists

-- the sums of these totals
abbrev pub sums_of : Totals → Sums
sums_of t = record {
  penalties = record { time = t.time; room = t.room; distribution = t.distribution; student = t.student };
  total = t.total;
}

-- totals with these sums and hard conflicts, and none of what isn't counted here
abbrev pub totals_with : Sums → (hard : ℕ) → Totals
totals_with s hard = record {
  time = s.penalties.time;
  room = s.penalties.room;
  distribution = s.penalties.distribution;
  student = s.penalties.student;
  total = s.total;
  hard = hard;
  unplaced = 0;
  unsectioned = 0;
}
