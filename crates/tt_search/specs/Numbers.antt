-- Proof. What the code of a turn keeps: the numbers of prices and ranks, in the order in which they are compared, and turns.
use Rattle.std.specs.Prelude.{ℕ, ◌≡◌, ◌<◌, List, [], ◌∷◌, Option, Some, None, IfSome, if◌then◌else◌}
use Rattle.std.specs.Option.{option_map_or}
use Rattle.tt_plan.specs.Domain.{IsOfDomain}
use Rattle.tt_bits.specs.declared.times.Value.{Value}
use Rattle.tt_problem.specs.declared.parts.Parts.{Parts}
use Rattle.tt_search.specs.declared.price.Price.{Price}
use Rattle.tt_search.specs.declared.price.Rank.{Rank}
use Rattle.tt_search.specs.declared.turn.Turn.{Turn}
use Rattle.tt_state.specs.Forced.{forced}
use Rattle.tt_state.specs.Snapshots.{Snapshot}
use Rattle.tt_state.specs.Values.{obstacle_of}
use Rattle.tt_state.specs.Tolls.{tolls_of}
use Rattle.tt_published.specs.Timetable.{Timetable}
use Rattle.tt_search.specs.Turns.{strays_in}

-- the numbers of a price
abbrev pub price_numbers : Price → List ℕ
price_numbers r = r.weight ∷ (if r.strays then 1 else 0) ∷ []

-- the numbers of a rank
abbrev pub rank_numbers : Rank → List ℕ
rank_numbers r = r.unplaced ∷ r.hard ∷ r.moved ∷ r.total ∷ []

-- the value is of the class's domain, and nothing stands in its way
pub record IsAvailable (p : Parts) (s : Snapshot) (class : ℕ) (v : Value) : Type 0 where
  pub domain : IsOfDomain p class v
  pub free : obstacle_of p s class v ≡ None

-- the numbers of the price of a value: the weight, and whether it strays from what is published
abbrev pub prices_of : Parts → Option Timetable → Snapshot → (class : ℕ) → Value → List ℕ
prices_of p published s class v = tolls_of p s class v ∷ strays_in p published class v ∷ []

-- the least price so far weighs less than so many classes
abbrev pub WeighsLess : Option Price → (count : ℕ) → Type 0
WeighsLess None count = ⊥
WeighsLess (Some price) count = price.weight < count

-- the value of a turn is available, if there is one
abbrev pub MayMake : Parts → Snapshot → Turn → Type 0
MayMake p s m = IfSome m.value (IsAvailable p s m.class)

-- a snapshot after such a turn
abbrev pub after_making : Parts → Snapshot → Turn → Snapshot
after_making p s m = option_map_or (forced p s m.class) m.value s
