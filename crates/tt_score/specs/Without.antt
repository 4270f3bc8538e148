-- Contract. What the total has without a class.
use Rattle.std.specs.Prelude.{ℕ, List, Option, None, slice_set}
use Rattle.tt_bits.specs.declared.times.Value.{Value}
use Rattle.tt_problem.specs.declared.parts.Parts.{Parts}
use Rattle.tt_plan.specs.Domain.{spots_of}
use Rattle.tt_roster.specs.Conflicts.{student_conflicts}
use Rattle.tt_score.specs.declared.totals.Without.{Without}
use Rattle.tt_score.specs.Apart.{cost_sum_without}

-- the student conflicts of a plan without a class, and the costs of the soft rules of which it is no member
abbrev pub without_at : Parts → (plan : List (Option Value)) → (lists : List (List ℕ)) → (class : ℕ) → Without
without_at p plan lists class = record {
  student = student_conflicts p.travel (spots_of p (slice_set plan class None)) lists;
  distribution = cost_sum_without p (spots_of p plan) class;
}
