-- Contract. What choices are judged by: a table of the classes from a first one on.
use Rattle.std.specs.Prelude.{◌≡◌, ℕ, ◌+◌, ◌-◌, ◌*◌, ◌^◌, ◌<◌, ◌≤◌, Bool, true, false, List, Option, None, length, slice_index_or, sum_by}
use Rattle.std.specs.List.{list_all}
use Rattle.std.specs.Option.{option_map_or}
use Rattle.tt_base.specs.Among.{pairs_among}
use Rattle.tt_base.specs.Lists.{is_listed}
use Rattle.tt_least.specs.declared.table.Table.{Table}
use Rattle.tt_least.specs.Choices.{AreApart}
use Rattle.tt_least.specs.Limits.{most_searched}

-- the class is one of the table's
abbrev pub IsIn : Table → ℕ → Type 0
IsIn t c = (t.first ≤ c) × (c < t.first + t.count)

-- what a class costs by itself
abbrev pub weight_in : Table → ℕ → ℕ
weight_in t c = slice_index_or t.weights.now (c - t.first) 0

-- two classes conflict
abbrev pub conflict_in : Table → ℕ → ℕ → Bool
conflict_in t c d = slice_index_or t.conflicts.now ((c - t.first) * t.size + (d - t.first)) false

-- the class with which alone a class may be chosen, if there is one
abbrev pub parent_in : Table → ℕ → Option ℕ
parent_in t c = slice_index_or t.parents.now (c - t.first) None

-- the class stands in flags by class
abbrev pub is_flagged : Table → List Bool → ℕ → Bool
is_flagged t flags c = slice_index_or flags (c - t.first) false

-- what a choice costs: its classes, and the pairs of them that conflict
abbrev pub pairs_in : Table → List ℕ → ℕ
pairs_in t choice = sum_by (weight_in t) choice + pairs_among (conflict_in t) choice

-- the class has no parent, or its parent is in the choice
abbrev pub has_parent : Table → List ℕ → ℕ → Bool
has_parent t choice c = option_map_or (λ p. is_listed p choice) (parent_in t c) true

-- each class of the choice has its parent
abbrev pub is_allowed : Table → List ℕ → Bool
is_allowed t choice = list_all (has_parent t choice) choice

-- there is a place for each class in each of the table's lists
pub record IsSized (t : Table) : Type 0 where
  pub few : t.count ≤ t.size
  pub small : t.size ≤ most_searched
  pub below : t.first + t.count < 2 ^ 32
  pub weights : length t.weights.now ≡ t.size
  pub parents : length t.parents.now ≡ t.size
  pub conflicts : length t.conflicts.now ≡ t.size * t.size

-- conflicts are the same both ways, and each class conflicts with itself
pub record IsMutual (t : Table) : Type 0 where
  pub both_ways : (c d : ℕ) → IsIn t c → IsIn t d → conflict_in t c d ≡ conflict_in t d c
  pub itself : (c : ℕ) → IsIn t c → conflict_in t c c ≡ true

-- a table that may be searched: with a place for each class, and its subparts one after another
pub record IsTable (t : Table) : Type 0 where
  pub sized : IsSized t
  pub both_ways : IsMutual t
  pub apart : AreApart t.first t.subparts.now (t.first + t.count)
  pub few : length t.subparts.now ≤ t.size
