-- Contract. The classes that are listed, and what the code keeps of them.
use Rattle.std.specs.Prelude.{◌≡◌, ℕ, ◌<◌, ◌≤◌, ◌^◌, Bool, false, List, filter, length, slice_index_or, count_by}
use Rattle.std.specs.List.{range_with_len}
use Rattle.tt_base.specs.Lists.{is_listed}

-- some classes of so many, in the order in which they were listed
pub record ListedClasses : Type 0 where
  pub classes : ℕ
  pub list : List ℕ

-- the listed classes stand in the problem's order
abbrev pub AreInOrder : ListedClasses → Type 0
AreInOrder l = l.list ≡ filter (λ d. is_listed d l.list) (range_with_len 0 l.classes)

-- exactly the listed classes are marked, each is listed once, and there is room for all
pub record IsListing (marks : List Bool) (list : List ℕ) (room : ℕ) : Type 0 where
  pub counted : length list ≡ count_by (λ b. b) marks
  pub each : (d : ℕ) → slice_index_or marks d false ≡ is_listed d list
  pub spare : length marks ≤ room
  pub few : length marks < 2 ^ 32
