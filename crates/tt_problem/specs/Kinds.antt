-- Theorem. What a type of distribution is, a definition a question, and the one table of the types' names.
use Rattle.std.specs.Prelude.{ℕ, Bool, true, false, is_none, List, [], ◌∷◌, Option, Some, None, codes}
use Rattle.std.specs.List.{find}
use Rattle.std.proofs.Common.{bytes_eq}
use Rattle.tt_bits.specs.declared.pairs.PairKind.{PairKind}
use Rattle.tt_bits.specs.declared.pairs.PairKind.TheVariants.{SameStart, SameTime, DifferentTime, SameDays, DifferentDays, SameWeeks, DifferentWeeks, Overlap, NotOverlap, SameRoom, DifferentRoom, SameAttendees, Precedence, WorkDay, MinGap}
use Rattle.tt_problem.specs.declared.parts.DistKind.{DistKind}
use Rattle.tt_problem.specs.declared.parts.DistKind.TheVariants.{Pair, MaxDays, MaxWeeks, MaxDayLoad, MaxBreaks, MaxBlock}
use Rattle.tt_problem.specs.declared.kinds.Parameters.{Parameters}
use Rattle.tt_problem.specs.declared.kinds.Parameters.TheVariants.{Plain, One, Two}

-- what it asks of each two members, where it is a pair type
abbrev pub pair_of : DistKind → Option PairKind
pair_of (Pair kind) = Some kind
pair_of group = None

-- it is a group type: a required rule of it is one hard conflict at most, and one of a pair type is as many as its amount
abbrev pub is_group : DistKind → Bool
is_group kind = is_none (pair_of kind)

-- its amount is counted in each week, and costs by the mean
abbrev pub is_shared_by_weeks : DistKind → Bool
is_shared_by_weeks (MaxDayLoad most) = true
is_shared_by_weeks (MaxBreaks breaks gap) = true
is_shared_by_weeks (MaxBlock most gap) = true
is_shared_by_weeks other = false

-- its amount is counted in blocks
abbrev pub counts_blocks : DistKind → Bool
counts_blocks (MaxBreaks breaks gap) = true
counts_blocks (MaxBlock most gap) = true
counts_blocks other = false

-- it is a group type whose amount no removal takes from 0
abbrev pub stays_at_0 : DistKind → Bool
stays_at_0 (Pair kind) = false
stays_at_0 (MaxBreaks breaks gap) = false
stays_at_0 other = true

-- how a problem file names a type
pub record Naming : Type 0 where
  pub name : List ℕ
  -- the first version of the file's form that has it
  pub since : ℕ
  -- the numbers that stand after the name
  pub parameters : Parameters

-- the table of the types
unfoldable pub naming_of : DistKind → Naming
naming_of (Pair SameStart) = record { name = codes "SameStart"; since = 1; parameters = Plain }
naming_of (Pair SameTime) = record { name = codes "SameTime"; since = 1; parameters = Plain }
naming_of (Pair DifferentTime) = record { name = codes "DifferentTime"; since = 1; parameters = Plain }
naming_of (Pair SameDays) = record { name = codes "SameDays"; since = 1; parameters = Plain }
naming_of (Pair DifferentDays) = record { name = codes "DifferentDays"; since = 1; parameters = Plain }
naming_of (Pair SameWeeks) = record { name = codes "SameWeeks"; since = 1; parameters = Plain }
naming_of (Pair DifferentWeeks) = record { name = codes "DifferentWeeks"; since = 1; parameters = Plain }
naming_of (Pair Overlap) = record { name = codes "Overlap"; since = 1; parameters = Plain }
naming_of (Pair NotOverlap) = record { name = codes "NotOverlap"; since = 1; parameters = Plain }
naming_of (Pair SameRoom) = record { name = codes "SameRoom"; since = 1; parameters = Plain }
naming_of (Pair DifferentRoom) = record { name = codes "DifferentRoom"; since = 1; parameters = Plain }
naming_of (Pair SameAttendees) = record { name = codes "SameAttendees"; since = 1; parameters = Plain }
naming_of (Pair Precedence) = record { name = codes "Precedence"; since = 1; parameters = Plain }
naming_of (Pair (WorkDay span)) = record { name = codes "WorkDay"; since = 1; parameters = One span }
naming_of (Pair (MinGap gap)) = record { name = codes "MinGap"; since = 1; parameters = One gap }
naming_of (MaxDays most) = record { name = codes "MaxDays"; since = 1; parameters = One most }
naming_of (MaxWeeks most) = record { name = codes "MaxWeeks"; since = 2; parameters = One most }
naming_of (MaxDayLoad most) = record { name = codes "MaxDayLoad"; since = 1; parameters = One most }
naming_of (MaxBreaks breaks gap) = record { name = codes "MaxBreaks"; since = 1; parameters = Two breaks gap }
naming_of (MaxBlock most gap) = record { name = codes "MaxBlock"; since = 1; parameters = Two most gap }

-- the types with these parameters
unfoldable pub kinds_with : Parameters → List DistKind
kinds_with Plain =
    Pair SameStart ∷ Pair SameTime ∷ Pair DifferentTime ∷ Pair SameDays ∷ Pair DifferentDays ∷ Pair SameWeeks ∷ Pair DifferentWeeks ∷
    Pair Overlap ∷ Pair NotOverlap ∷ Pair SameRoom ∷ Pair DifferentRoom ∷ Pair SameAttendees ∷ Pair Precedence ∷ []
kinds_with (One n) = Pair (WorkDay n) ∷ Pair (MinGap n) ∷ MaxDays n ∷ MaxWeeks n ∷ MaxDayLoad n ∷ []
kinds_with (Two m n) = MaxBreaks m n ∷ MaxBlock m n ∷ []

-- the type of a name and its parameters
unfoldable pub named : List ℕ → Parameters → Option DistKind
named name parameters = find (λ kind. bytes_eq name (naming_of kind).name) (kinds_with parameters)
