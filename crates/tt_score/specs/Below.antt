-- Contract. A number that is wanted only below a bound.
use Rattle.std.specs.Prelude.{ℕ, nat_lt, Option, Some, None, if◌then◌else◌}

-- the number, where it is below the bound
abbrev pub below : (bound number : ℕ) → Option ℕ
below bound number = if nat_lt number bound then Some number else None
