-- Each type is the one of its name and its parameters, and no name has a parenthesis.
use Rattle.std.proofs.Common.{◌≡◌, Some, false, refl}
use Rattle.std.specs.Prelude.{◌==◌}
use Rattle.std.specs.List.{list_any}
use Rattle.tt_bits.specs.declared.pairs.PairKind.TheVariants.{SameStart, SameTime, DifferentTime, SameDays, DifferentDays, SameWeeks, DifferentWeeks, Overlap, NotOverlap, SameRoom, DifferentRoom, SameAttendees, Precedence, WorkDay, MinGap}
use Rattle.tt_problem.specs.declared.parts.DistKind.{DistKind}
use Rattle.tt_problem.specs.declared.parts.DistKind.TheVariants.{Pair, MaxDays, MaxWeeks, MaxDayLoad, MaxBreaks, MaxBlock}
use Rattle.tt_problem.specs.Kinds.{naming_of, kinds_with, named}

pub record IsNamed (kind : DistKind) : Type 0 where
  pub found : named (naming_of kind).name (naming_of kind).parameters ≡ Some kind
  pub plain : list_any (λ c. c == 40) (naming_of kind).name ≡ false

pub each_named : (kind : DistKind) → IsNamed kind
unfolding naming_of kinds_with named
each_named (Pair SameStart) = record { found = refl; plain = refl }
each_named (Pair SameTime) = record { found = refl; plain = refl }
each_named (Pair DifferentTime) = record { found = refl; plain = refl }
each_named (Pair SameDays) = record { found = refl; plain = refl }
each_named (Pair DifferentDays) = record { found = refl; plain = refl }
each_named (Pair SameWeeks) = record { found = refl; plain = refl }
each_named (Pair DifferentWeeks) = record { found = refl; plain = refl }
each_named (Pair Overlap) = record { found = refl; plain = refl }
each_named (Pair NotOverlap) = record { found = refl; plain = refl }
each_named (Pair SameRoom) = record { found = refl; plain = refl }
each_named (Pair DifferentRoom) = record { found = refl; plain = refl }
each_named (Pair SameAttendees) = record { found = refl; plain = refl }
each_named (Pair Precedence) = record { found = refl; plain = refl }
each_named (Pair (WorkDay span)) = record { found = refl; plain = refl }
each_named (Pair (MinGap gap)) = record { found = refl; plain = refl }
each_named (MaxDays most) = record { found = refl; plain = refl }
each_named (MaxWeeks most) = record { found = refl; plain = refl }
each_named (MaxDayLoad most) = record { found = refl; plain = refl }
each_named (MaxBreaks breaks gap) = record { found = refl; plain = refl }
each_named (MaxBlock most gap) = record { found = refl; plain = refl }
