-- Theorem. The counts of a class.
use Rattle.std.specs.Prelude.{ℕ, Bool, List, take_while, ◌==◌, [], if◌then◌else◌}
use Rattle.std.specs.List.{filter}
use Rattle.tt_bits.specs.declared.times.Key.{Key}
use Rattle.tt_cbs.specs.declared.Counts.{Counts}

-- whether a key with its count is of a class
abbrev pub is_of : (class : ℕ) → Key × ℕ → Bool
is_of class e = e.0.class == class

-- the keys of a class with their counts, in the order in which they stand
abbrev pub of_class : (class : ℕ) → List (Key × ℕ) → List (Key × ℕ)
of_class class es = filter (is_of class) es

-- what an iterator over the counts of a class has yet to give
abbrev pub listed : Counts → List (Key × ℕ)
listed c = if c.done then [] else take_while (is_of c.class) c.inner
