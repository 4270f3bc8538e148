-- The shape of a pair rule names its kind.
use Rattle.std.proofs.Common.{◌≡◌, ℕ, ◌<◌, Some, refl}
use Rattle.std.specs.Prelude.{slice_get}
use Rattle.std.proofs.lemmas.Option.{slice_get_within, get_or_from_slice_get}
use Rattle.tt_bits.specs.declared.pairs.PairKind.{PairKind}
use Rattle.tt_bits.specs.declared.pairs.PairKind.TheVariants.{SameStart, SameTime, DifferentTime, SameDays, DifferentDays, SameWeeks, DifferentWeeks, Overlap, NotOverlap, SameRoom, DifferentRoom, SameAttendees, Precedence, WorkDay, MinGap}
use Rattle.tt_measure.specs.KindNumbers.{max_days_number}
use Rattle.tt_pair.specs.PairShapes.{kind_number, slots_of, pair_shape, kinds, kind_of}

-- a kind stands at its place among the fifteen
kind_there : (kind : PairKind) → slice_get (kinds (slots_of kind)) (kind_number kind) ≡ Some kind
kind_there SameStart = refl
kind_there SameTime = refl
kind_there DifferentTime = refl
kind_there SameDays = refl
kind_there DifferentDays = refl
kind_there SameWeeks = refl
kind_there DifferentWeeks = refl
kind_there Overlap = refl
kind_there NotOverlap = refl
kind_there SameRoom = refl
kind_there DifferentRoom = refl
kind_there SameAttendees = refl
kind_there Precedence = refl
kind_there (WorkDay span) = refl
kind_there (MinGap gap) = refl

pub kind_number-few : (kind : PairKind) → kind_number kind < max_days_number
kind_number-few kind = slice_get_within (kinds (slots_of kind)) (kind_number kind) kind (kind_there kind)

pub kind_of-pair_shape : (kind : PairKind) (members : ℕ) → kind_of (pair_shape kind members) ≡ kind
unfolding kind_of
kind_of-pair_shape kind members = get_or_from_slice_get (kinds (slots_of kind)) (kind_number kind) kind SameStart (kind_there kind)
