-- Contract. A group of a pair rule as numbers.
use Rattle.std.specs.Prelude.{ℕ, List, [], ◌∷◌, slice_index, slice_index_or}
use Rattle.tt_bits.specs.declared.pairs.PairKind.{PairKind}
use Rattle.tt_bits.specs.declared.pairs.PairKind.TheVariants.{SameStart, SameTime, DifferentTime, SameDays, DifferentDays, SameWeeks, DifferentWeeks, Overlap, NotOverlap, SameRoom, DifferentRoom, SameAttendees, Precedence, WorkDay, MinGap}
use Rattle.tt_measure.specs.Limits.{most_weeks}

-- the place of a kind among the fifteen
abbrev pub kind_number : PairKind → ℕ
kind_number SameStart = 0
kind_number SameTime = 1
kind_number DifferentTime = 2
kind_number SameDays = 3
kind_number DifferentDays = 4
kind_number SameWeeks = 5
kind_number DifferentWeeks = 6
kind_number Overlap = 7
kind_number NotOverlap = 8
kind_number SameRoom = 9
kind_number DifferentRoom = 10
kind_number SameAttendees = 11
kind_number Precedence = 12
kind_number (WorkDay span) = 13
kind_number (MinGap gap) = 14

-- the slots that a kind names, 0 where it names none
abbrev pub slots_of : PairKind → ℕ
slots_of (WorkDay span) = span
slots_of (MinGap gap) = gap
slots_of kind = 0

-- the kind, its slots, the number of members and the weeks
abbrev pub pair_shape : PairKind → ℕ → List ℕ
pair_shape kind members = kind_number kind ∷ slots_of kind ∷ members ∷ most_weeks ∷ []

-- the fifteen kinds, with these slots where they name some
abbrev pub kinds : ℕ → List PairKind
kinds slots =
    SameStart ∷ SameTime ∷ DifferentTime ∷ SameDays ∷ DifferentDays ∷ SameWeeks ∷ DifferentWeeks ∷ Overlap ∷ NotOverlap ∷ SameRoom ∷ DifferentRoom
    ∷ SameAttendees ∷ Precedence ∷ WorkDay slots ∷ MinGap slots ∷ []

-- the kind that a shape names
unfoldable pub kind_of : List ℕ → PairKind
kind_of sh = slice_index_or (kinds (slice_index sh 1)) (slice_index sh 0) SameStart
