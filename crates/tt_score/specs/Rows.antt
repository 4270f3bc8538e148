-- Proof. The joint rows of classes, and what a row says of its class.
use Rattle.std.specs.Prelude.{◌≡◌, ℕ, ◌<◌, ◌≤◌, All, IfSome, List, [], Option, None, Some, true, cond, length, slice_index, slice_index_or, sum_by}
use Rattle.std.specs.Option.{option_map_or}
use Rattle.tt_bits.specs.declared.times.Spot.{Spot}
use Rattle.tt_bits.specs.Spots.{spot_at}
use Rattle.tt_travel.specs.Table.{Table}
use Rattle.tt_base.specs.Lists.{is_listed}
use Rattle.tt_roster.specs.Lists.{Ascends, list_of}
use Rattle.tt_roster.specs.Conflicts.{are_in_conflict, class_conflicts}
use Rattle.tt_score.specs.declared.rows.JointClass.{JointClass}

-- the row of a class, where it is kept
abbrev pub row_at : List (Option (List JointClass)) → (class : ℕ) → Option (List JointClass)
row_at rows class = slice_index_or rows class None

-- the row of a class, empty where none is kept
abbrev pub kept_row : List (Option (List JointClass)) → (class : ℕ) → List JointClass
kept_row rows class = option_map_or (λ row. row) (row_at rows class) []

-- a class with its number
abbrev pub pair_of : (numbers : List ℕ) → (other : ℕ) → JointClass
pair_of numbers other = record { class = other; number = slice_index numbers other }

-- the number of a class, where it is placed and conflicts with the spot
abbrev pub pair_at : Table → List (Option Spot) → Spot → JointClass → ℕ
pair_at t spots x pair = cond (are_in_conflict t (Some x) (spot_at spots pair.class)) pair.number 0

-- the row is of so many classes, and its numbers at those that conflict with a spot are the conflicting pairs with its class there
pub record IsRowOf (lists : List (List ℕ)) (classes class : ℕ) (row : List JointClass) : Type 0 where
  pub within : All (λ pair. pair.class < classes) row
  pub few : length row ≤ classes
  pub paid : All (Ascends 0 classes) lists → (t : Table) (spots : List (Option Spot)) (x : Spot) → sum_by (pair_at t spots x) row ≡ class_conflicts t spots lists class x

-- each row that is kept is that of its class
abbrev pub AreRowsOf : (lists : List (List ℕ)) → List (Option (List JointClass)) → Type 0
AreRowsOf lists rows = (class : ℕ) → IfSome (row_at rows class) (IsRowOf lists (length rows) class)

-- the rows that are left are those of the classes that aren't on a list
abbrev pub AreLeft : (classes : List ℕ) → List (Option (List JointClass)) → List (Option (List JointClass)) → Type 0
AreLeft classes rows left = (class : ℕ) → row_at left class ≡ cond (is_listed class classes) None (row_at rows class)

-- no class of the student has a row
abbrev pub IsCleared : (lists : List (List ℕ)) → List (Option (List JointClass)) → (student : ℕ) → Type 0
IsCleared lists rows student = (class : ℕ) → is_listed class (list_of lists student) ≡ true → row_at rows class ≡ None
