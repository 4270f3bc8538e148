-- Contract. Prices of groups of classes that all conflict with one another.
use Rattle.std.specs.Prelude.{◌≡◌, ℕ, suc, zero, ◌+◌, ◌-◌, ◌<◌, ◌≤◌, true, cond, List, None, length, slice_get, slice_index_or, sum, sum_by, take, All, IfSome}
use Rattle.tt_least.specs.declared.table.Table.{Table}
use Rattle.tt_least.specs.declared.level.Level.{Level}
use Rattle.tt_least.specs.declared.groups.Groups.{Groups}
use Rattle.tt_least.specs.declared.narrow.Bound.{Bound}
use Rattle.tt_least.specs.Limits.{most_price}
use Rattle.tt_least.specs.Judged.{IsIn, conflict_in, is_flagged}
use Rattle.tt_least.specs.Nodes.{weight_at}

-- the group of a class
abbrev pub group_in : Table → Groups → ℕ → ℕ
group_in t g c = slice_index_or g.group_of.items (c - t.first) 0

-- the price of the group of a class
abbrev pub price_in : Table → Groups → ℕ → ℕ
price_in t g c = slice_index_or g.prices.items (group_in t g c) 0

-- the sum of the numbers up to this one
abbrev pub numbers_up_to : ℕ → ℕ
numbers_up_to zero = 0
numbers_up_to (suc n) = suc n + numbers_up_to n

-- what is owed for the prices of groups: for each the sum of the numbers up to it
abbrev pub owed_of : (prices : List ℕ) → ℕ
owed_of prices = sum_by numbers_up_to prices

-- there is a place for each class and each group
pub record HasRoomForGroups (size : ℕ) (g : Groups) : Type 0 where
  pub groups : length g.group_of.items ≡ size
  pub names : length g.names.items ≡ size
  pub prices : length g.prices.items ≡ size
  pub alone : length g.alone.items ≡ size
  pub among : length g.among.items ≡ size

-- any two classes of a group conflict
pub record AreGroups (t : Table) (g : Groups) : Type 0 where
  pub room : HasRoomForGroups t.size g
  pub few : All (λ price. price ≤ most_price) g.prices.items
  pub owed : g.owed ≡ owed_of g.prices.items
  pub below : All (λ group. group < t.size) g.group_of.items
  pub names : All (λ group. group < t.size) g.names.items
  pub listed : g.count ≤ t.size
  pub each : (c d : ℕ) → IsIn t c → IsIn t d → group_in t g c ≡ group_in t g d → conflict_in t c d ≡ true

-- what a class that is still to come costs, the price of its group added, and 0 of another one
abbrev pub priced_at : Table → Groups → Level → ℕ → ℕ
priced_at t g l c = cond (is_flagged t l.to_come.items c) (weight_at t l c + price_in t g c) 0

-- of the subparts whose class is still to come, no class that is left costs less
pub record AreCosts (t : Table) (g : Groups) (l : Level) (costs : List ℕ) : Type 0 where
  pub long : length costs ≡ t.size
  pub each : (k c : ℕ) → slice_index_or l.chosen.items k None ≡ None → IfSome (slice_get t.subparts.now k) (λ s. s.first ≤ c → c < s.after → is_flagged t l.left.items c ≡ true → slice_index_or costs (c - t.first) 0 ≤ priced_at t g l c)

-- for each subpart, no class that is left costs less
pub record AreLeast (t : Table) (g : Groups) (l : Level) (leasts : List ℕ) : Type 0 where
  pub long : length leasts ≡ t.size
  pub each : (k c : ℕ) → IfSome (slice_get t.subparts.now k) (λ s. s.first ≤ c → c < s.after → is_flagged t l.left.items c ≡ true → slice_index_or leasts k 0 ≤ priced_at t g l c)

-- what the choices of a node cost at least, by the prices of groups
pub record IsBound (t : Table) (g : Groups) (l : Level) (b : Bound) : Type 0 where
  pub costs : AreCosts t g l b.costs.now
  pub leasts : AreLeast t g l b.leasts.now
  pub sum : b.sum ≤ l.pairs + sum (take (length t.subparts.now) b.leasts.now)
  pub owed : b.owed ≡ owed_of g.prices.items
