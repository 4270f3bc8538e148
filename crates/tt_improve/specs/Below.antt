-- Proof. A walk over values that keeps the first of those with the least number below a bound.
use Rattle.std.specs.Prelude.{ℕ, Bool, ◌&&◌, nat_lt, List, Some, None, fold, if◌then◌else◌}
use Rattle.tt_bits.specs.declared.times.Value.{Value}
use Rattle.tt_improve.specs.declared.classes.Best.{Best}

-- a free value with a lower total than the best so far takes its place
abbrev pub lower_of : (Value → Bool) → (Value → ℕ) → Best → Value → Best
lower_of free total best v =
    if nat_lt (total v) best.total && free v then record { total = total v; value = Some v } else best

-- the best once these values are passed, one after another
abbrev pub lowest_after : (Value → Bool) → (Value → ℕ) → Best → List Value → Best
lowest_after free total best values = fold (lower_of free total) best values

-- nothing is found yet, and only a number below this one is better
abbrev pub nothing_below : ℕ → Best
nothing_below bound = record { total = bound; value = None }
