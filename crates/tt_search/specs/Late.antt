-- Proof. Flags by class that are kept while classes are forced to values.
use Rattle.std.specs.Prelude.{ℕ, ◌≡◌, ◌<◌, Bool, false, List, slice_index_or}
use Rattle.tt_base.specs.Lists.{is_listed}
use Rattle.tt_state.specs.Snapshots.{Snapshot, value_in}

-- the flags of so many classes are those of a test, but for some classes that are late
abbrev pub AreRightBut : (count : ℕ) → (flags : List Bool) → (test : ℕ → Bool) → (late : List ℕ) → Type 0
AreRightBut count flags test late = (class : ℕ) → class < count → is_listed class late ≡ false → slice_index_or flags class false ≡ test class

-- the second snapshot has the closures of the first, and each class has the value that it had, but for some that are late
pub record KeepsOthers (s t : Snapshot) (late : List ℕ) : Type 0 where
  pub closures : t.closures ≡ s.closures
  pub values : (class : ℕ) → is_listed class late ≡ false → value_in t class ≡ value_in s class
