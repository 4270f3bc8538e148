-- Proof. Which values of a class the code of a turn has found to be least so far.
use Rattle.std.specs.Prelude.{ℕ, ◌≡◌, ◌<◌, ◌≤◌, List, [], ◌∷◌, ◌++◌, Option, length, map, take, vec_capacity}
use Rattle.std.specs.Option.{option_map}
use Rattle.tt_base.specs.Lists.{first_least}
use Rattle.tt_bits.specs.declared.times.Value.{Value}
use Rattle.tt_plan.specs.Domain.{domain_of}
use Rattle.tt_plan.specs.Placements.{IsPlacement}
use Rattle.tt_plan.specs.declared.placement.Placement.{Placement}
use Rattle.tt_problem.specs.declared.parts.Parts.{Parts}
use Rattle.tt_search.specs.declared.least.Kept.{Kept}
use Rattle.tt_search.specs.declared.least.LeastValues.{LeastValues}
use Rattle.tt_search.specs.Numbers.{price_numbers}
use Rattle.tt_search.specs.PlaceTurns.{all_least}
use Rattle.tt_state.specs.Snapshots.{Snapshot}
use Rattle.tt_state.specs.Values.{total_with}

-- there is room for the values of each class
abbrev pub HasRoomForValues : Parts → LeastValues → Type 0
HasRoomForValues p l = (class : ℕ) → class < length p.classes → length (domain_of p class) ≤ vec_capacity l.values

-- these are the items of a list that are least, and the numbers of these, where there is one
pub record AreLeastBy {A : Type 0} (numbers : A → List ℕ) (xs : List A) (least : Option (List ℕ)) (found : List A) : Type 0 where
  pub items : found ≡ all_least numbers xs
  pub lowest : least ≡ option_map numbers (first_least numbers xs)

-- it is a placement of this class
pub record IsPlacementOf (p : Parts) (class : ℕ) (x : Placement) : Type 0 where
  pub class_is : x.class ≡ class
  pub placement : IsPlacement p x

-- the values of these placements
abbrev pub values_of : List Placement → List Value
values_of xs = map (λ x. x.value) xs

-- what is kept are the values of a list with the least price, and it is this
abbrev pub AreLightest : (prices : Value → List ℕ) → List Value → LeastValues → Type 0
AreLightest prices xs l = AreLeastBy prices xs (option_map price_numbers l.price) (values_of l.values.items)

-- the numbers of one kind, and behind them those of another
abbrev pub then_by : {A : Type 0} → (front rest : A → List ℕ) → A → List ℕ
then_by front rest x = front x ++ rest x

-- the total with a class at a value, as numbers
abbrev pub total_numbers : Parts → Snapshot → (class : ℕ) → Value → List ℕ
total_numbers p s class v = total_with p s class v ∷ []

-- the first of the values, as many as were kept, are those of a list with the least total, and it is this
abbrev pub AreKept : (totals : Value → List ℕ) → List Value → (values : List Value) → Kept → Type 0
AreKept totals xs values k = AreLeastBy totals xs (option_map (λ t. t ∷ []) k.total) (take k.count values)
