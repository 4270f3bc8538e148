-- Contract. There are as many hard violations as the totals count.
use Rattle.std.specs.Prelude.{◌≡◌, List, ℕ, Option, length}
use Rattle.tt_bits.specs.declared.times.Closure.{Closure}
use Rattle.tt_bits.specs.declared.times.Spot.{Spot}
use Rattle.tt_bits.specs.declared.times.Value.{Value}
use Rattle.tt_problem.specs.declared.parts.Parts.{Parts}
use Rattle.tt_plan.specs.Domain.{spots_of}
use Rattle.tt_score.specs.Totals.{totals_of}
use Rattle.tt_verify.specs.Violations.{hard_violations}

-- the hard violations of these spots are as many as the totals count as hard, of each plan with these spots and of any lists
abbrev pub AreAsManyAsHard : Parts → List Closure → List (Option Spot) → Type 0
AreAsManyAsHard p closures spots =
    (plan : List (Option Value)) (lists : List (List ℕ)) → length plan ≡ length p.classes → spots ≡ spots_of p plan
    → length (hard_violations p closures spots) ≡ (totals_of p closures plan lists).hard
