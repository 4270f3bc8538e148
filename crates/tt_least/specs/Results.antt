-- Contract. What a search finds, and that there is nothing to be found.
use Rattle.std.specs.Prelude.{◌≡◌, ℕ, ◌<◌, ◌≤◌, Bool, true, false, List, length, All}
use Rattle.tt_base.specs.Lists.{comes_before}
use Rattle.tt_least.specs.declared.table.Table.{Table}
use Rattle.tt_least.specs.declared.level.Level.{Level}
use Rattle.tt_least.specs.Judged.{pairs_in, is_allowed}
use Rattle.tt_least.specs.declared.scratch.Scratch.{Scratch}
use Rattle.tt_least.specs.Nodes.{IsLeft, IsOf}
use Rattle.tt_least.specs.Prices.{AreGroups}

-- an allowed choice of what is left with so many pairs or fewer
pub record IsWithin (t : Table) (left : List Bool) (limit : ℕ) (choice : List ℕ) : Type 0 where
  pub is_left : IsLeft t left choice
  pub allowed : is_allowed t choice ≡ true
  pub few : pairs_in t choice ≤ limit

-- each allowed choice of what is left has more pairs
pub record NoneWithin (t : Table) (left : List Bool) (limit : ℕ) : Type 0 where
  pub each : (choice : List ℕ) → IsLeft t left choice → is_allowed t choice ≡ true → limit < pairs_in t choice

-- each allowed choice of a node has more pairs
pub record IsInVain (t : Table) (l : Level) (limit : ℕ) : Type 0 where
  pub each : (choice : List ℕ) → IsOf t l choice → is_allowed t choice ≡ true → limit < pairs_in t choice

-- a node with fewer classes left, of which nothing that is sought is lost: where it is in vain, so was the node before
pub record IsNarrowed (t : Table) (limit : ℕ) (old new : Level) : Type 0 where
  pub same : new ≡ record old { left = new.left }
  pub places : length new.left.items ≡ length old.left.items
  pub within : (choice : List ℕ) → IsLeft t new.left.items choice → IsLeft t old.left.items choice
  pub vain : IsInVain t new limit → IsInVain t old limit

-- the least: an allowed choice of what is left, no allowed one has fewer pairs, and none with as many comes before it
pub record IsLeast (t : Table) (left : List Bool) (choice : List ℕ) : Type 0 where
  pub is_left : IsLeft t left choice
  pub allowed : is_allowed t choice ≡ true
  pub least : (other : List ℕ) → IsLeft t left other → is_allowed t other ≡ true → pairs_in t choice ≤ pairs_in t other
  pub first : (other : List ℕ) → IsLeft t left other → is_allowed t other ≡ true → pairs_in t other ≤ pairs_in t choice → comes_before other choice ≡ false

-- lists of the search with room for each class, and groups of classes
pub record IsReady (t : Table) (w : Scratch) : Type 0 where
  pub groups : All (AreGroups t) w.groups.items
  pub costs : length w.costs.items ≡ t.size
  pub leasts : length w.leasts.items ≡ t.size
  pub front : length w.front.items ≡ t.size
  pub best : length w.best.items ≡ t.size
