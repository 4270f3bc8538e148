-- Contract. What one class alone has of a type of distribution.
use Rattle.std.specs.Prelude.{Bool, false, nat_lt}
use Rattle.tt_base.specs.Sets.{count}
use Rattle.tt_bits.specs.declared.times.Spot.{Spot}
use Rattle.tt_bits.specs.Sets.{day_set, week_set}
use Rattle.tt_problem.specs.declared.parts.DistKind.{DistKind}
use Rattle.tt_problem.specs.declared.parts.DistKind.TheVariants.{MaxDays, MaxWeeks, MaxDayLoad}

-- one class alone at the spot is more than a group type allows
abbrev pub exceeds_alone : DistKind → Spot → Bool
exceeds_alone (MaxDays most) x = nat_lt most (count (day_set x.time.days))
exceeds_alone (MaxWeeks most) x = nat_lt most (count (week_set x.time.weeks))
exceeds_alone (MaxDayLoad most) x = nat_lt most x.time.length
exceeds_alone other x = false
