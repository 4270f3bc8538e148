-- Contract. Room for a search.
use Rattle.std.specs.Prelude.{◌≡◌, ◌≢◌, ℕ, ◌-◌, ◌<◌, ◌≤◌, Bool, true, false, List, length, slice_get, slice_index_or, take, All, IfSome}
use Rattle.tt_problem.specs.declared.parts.Span.{Span}
use Rattle.tt_problem.specs.Spans.{is_in}
use Rattle.tt_least.specs.declared.table.Table.{Table}
use Rattle.tt_least.specs.declared.search.Search.{Search}
use Rattle.tt_least.specs.Limits.{most_searched}
use Rattle.tt_least.specs.Judged.{is_allowed, pairs_in}
use Rattle.tt_least.specs.Nodes.{HasPlaces, IsLeft}
use Rattle.tt_least.specs.Prices.{HasRoomForGroups}
use Rattle.tt_least.specs.Results.{IsReady}

-- there is room for so many classes and so many subparts
pub record HasRoomToSearch (size parts : ℕ) (w : Search) : Type 0 where
  pub few : size ≤ most_searched
  pub levels : All (HasPlaces size) w.levels.items
  pub deep : parts < length w.levels.items
  pub groups : All (HasRoomForGroups size) w.scratch.groups.items
  pub costs : length w.scratch.costs.items ≡ size
  pub leasts : length w.scratch.leasts.items ≡ size
  pub front : length w.scratch.front.items ≡ size
  pub best : length w.scratch.best.items ≡ size
  pub left : length w.left.items ≡ size
  pub trial : length w.trial.items ≡ size

-- the same, with groups of the classes of the table
pub record IsReadyToSearch (t : Table) (w : Search) : Type 0 where
  pub room : HasRoomToSearch t.size (length t.subparts.now) w
  pub ready : IsReady t w.scratch

-- the choice at the front of the buffer of the best
abbrev pub found_in : Table → Search → List ℕ
found_in t w = take (length t.subparts.now) w.scratch.best.items

-- flags by class from a first one on, as before but that of the span the class alone is left, where it was
pub record IsAlone (first : ℕ) (s : Span) (c : ℕ) (old new : List Bool) : Type 0 where
  pub long : length new ≡ length old
  pub one : slice_index_or new (c - first) false ≡ slice_index_or old (c - first) false
  pub others : (d : ℕ) → is_in d s ≡ true → d ≢ c → slice_index_or new (d - first) false ≡ false
  pub rest : (d : ℕ) → first ≤ d → is_in d s ≡ false → slice_index_or new (d - first) false ≡ slice_index_or old (d - first) false

-- of a subpart the class of what is found is left alone, and no choice of what was left with so few pairs has an earlier one
pub record IsSettled (t : Table) (k limit : ℕ) (old new : Search) : Type 0 where
  pub alone : IfSome (slice_get t.subparts.now k) (λ s. IsAlone t.first s (slice_index_or new.scratch.best.items k 0) old.left.items new.left.items)
  pub first : (choice : List ℕ) → IsLeft t old.left.items choice → is_allowed t choice ≡ true → pairs_in t choice ≤ limit → slice_index_or new.scratch.best.items k 0 ≤ slice_index_or choice k 0
  pub within : IsLeft t old.left.items (found_in t new)
