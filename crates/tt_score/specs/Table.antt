-- Proof. The joint rows of a problem of few classes, which are changed where a student's list changes.
use Rattle.std.specs.Prelude.{◌≡◌, ℕ, ◌+◌, ◌<◌, ◌≤◌, Bool, ◌==◌, cond, All, IfSome, IsSomeAnd, List, [], Option, None, Some, length, slice_index_or, sum_by, vec_capacity}
use Rattle.std.specs.Option.{option_map_or}
use Rattle.tt_bits.specs.declared.times.Spot.{Spot}
use Rattle.tt_travel.specs.Table.{Table}
use Rattle.tt_roster.specs.Lists.{Ascends}
use Rattle.tt_roster.specs.Conflicts.{class_conflicts}
use Rattle.tt_score.specs.Rows.{kept_row, pair_at}
use Rattle.tt_score.specs.declared.rows.JointClass.{JointClass}
use Rattle.tt_score.specs.declared.table.TableRow.TheInside.{Inside}

-- the most classes of a problem whose rows are changed in place
abbrev pub most_in_place : ℕ
most_in_place = 512

-- of how many classes a row is, and its pairs, where these are kept
pub record RowSeen : Type 0 where
  pub classes : ℕ
  pub pairs : Option (List JointClass)

abbrev pub row_seen : Inside → RowSeen
row_seen row = record { classes = length row.places.items; pairs = cond row.kept (Some row.pairs.items) None }

-- there is room for a pair of each class, and a number of 16 bits tells where it stands
pub record HasPairs (row : Inside) : Type 0 where
  pub few : length row.pairs.items ≤ length row.places.items
  pub room : length row.places.items ≤ vec_capacity row.pairs
  pub small : length row.places.items ≤ most_in_place

-- the numbers of the classes that pass a test, together
abbrev pub numbers_where : (g : ℕ → Bool) → List JointClass → ℕ
numbers_where g row = sum_by (λ pair. cond (g pair.class) pair.number 0) row

-- the row has one student more at a class
pub record IsOneMore (class : ℕ) (row more : List JointClass) : Type 0 where
  pub within : (n : ℕ) → class < n → All (λ pair. pair.class < n) row → All (λ pair. pair.class < n) more
  pub total : (g : ℕ → Bool) → numbers_where g more ≡ numbers_where g row + cond (g class) 1 0

-- the row has one student fewer at a class
pub record IsOneLess (class : ℕ) (row less : List JointClass) : Type 0 where
  pub within : (n : ℕ) → All (λ pair. pair.class < n) row → All (λ pair. pair.class < n) less
  pub total : (g : ℕ → Bool) → numbers_where g less + cond (g class) 1 0 ≡ numbers_where g row

-- the row of a class, none past the end
abbrev pub table_row : List RowSeen → (class : ℕ) → RowSeen
table_row table class = slice_index_or table class (record { classes = 0; pairs = None })

-- the row of a class that nobody has, of so many classes
abbrev pub new_row : (classes : ℕ) → RowSeen
new_row classes = record { classes = classes; pairs = Some [] }

-- the row is of so many classes, and its numbers at those that conflict with a spot are the conflicting pairs with its class there
pub record IsPaidRow (lists : List (List ℕ)) (classes class : ℕ) (row : List JointClass) : Type 0 where
  pub within : All (λ pair. pair.class < classes) row
  pub paid : All (Ascends 0 classes) lists → (t : Table) (spots : List (Option Spot)) (x : Spot) → sum_by (pair_at t spots x) row ≡ class_conflicts t spots lists class x

-- each row is of so many classes, and where its pairs are kept they are those of its class; there is one for each class, or none
pub record IsTableOf (lists : List (List ℕ)) (classes : ℕ) (table : List RowSeen) : Type 0 where
  pub whole : (class : ℕ) → class < length table → length table ≡ classes
  pub long : (class : ℕ) → class < length table → (table_row table class).classes ≡ classes
  pub rows : (class : ℕ) → IfSome (table_row table class).pairs (IsPaidRow lists classes class)

-- how many students more a class has at those that pass a test, once another is seated with a list
abbrev pub comes_to : (class : ℕ) → (g : ℕ → Bool) → (seated : ℕ) → List ℕ → ℕ
comes_to class g seated list = sum_by (λ other. cond (class == seated) (cond (g other) 1 0) 0 + cond (class == other) (cond (g seated) 1 0) 0) list

-- the row had its pairs before, and with the students who come by one list its numbers are those that it had with those who come by another
pub record IsBetween (classes seated class : ℕ) (list : List ℕ) (row : List JointClass) (list' : List ℕ) (row' : List JointClass) : Type 0 where
  pub within : All (λ pair. pair.class < classes) row → All (λ pair. pair.class < classes) row'
  pub total : (g : ℕ → Bool) → numbers_where g row' + comes_to class g seated list' ≡ numbers_where g row + comes_to class g seated list

-- so it is with the rows of a table that are kept
pub record AreBetween (seated : ℕ) (list : List ℕ) (table : List RowSeen) (list' : List ℕ) (table' : List RowSeen) : Type 0 where
  pub same : length table' ≡ length table
  pub long : (class : ℕ) → (table_row table' class).classes ≡ (table_row table class).classes
  pub rows : (class : ℕ) → IfSome (table_row table' class).pairs (λ row'. IsSomeAnd (table_row table class).pairs (λ row. IsBetween (length table) seated class list row list' row'))

-- the row of a class, from the table where it is kept there
abbrev pub row_of : List RowSeen → List (Option (List JointClass)) → (class : ℕ) → List JointClass
row_of table rows class = option_map_or (λ row. row) (table_row table class).pairs (kept_row rows class)
