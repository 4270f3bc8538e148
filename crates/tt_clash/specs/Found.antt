-- Proof. What the code finds, step by step: who clashes, who is out of a group, and what is listed.
use Rattle.std.specs.Prelude.{◌≡◌, ℕ, ◌<◌, ◌≤◌, Bool, true, ◌||◌, ◌==◌, List, Option, None, if◌then◌else◌, ◌++◌, map, nat_lt, length, take, drop}
use Rattle.tt_bits.specs.declared.times.Spot.{Spot}
use Rattle.tt_bits.specs.declared.pairs.PairKind.{PairKind}
use Rattle.tt_bits.specs.Spots.{spot_at}
use Rattle.tt_pair.specs.declared.Listed.TheVariants.{Before, After}
use Rattle.tt_pair.specs.Listed.{is_violated_by}
use Rattle.tt_base.specs.Lists.{is_listed}
use Rattle.tt_travel.specs.Table.{Table}
use Rattle.tt_occupancy.specs.Clashes.{clashes_in_room}
use Rattle.tt_occupancy.specs.RoomDays.{is_on}
use Rattle.tt_clash.specs.declared.placing as code
use Rattle.tt_clash.specs.Placings.{Placing, placing_of}
use Rattle.tt_clash.specs.ConflictSet.{passes, breaks_pair, out_for}

-- the member d at another place breaks the pair rule
abbrev pub breaks_with : PairKind → Placing → (place other : ℕ) → ℕ → Bool
breaks_with kind s place other d = passes s (is_violated_by kind s.problem.travel s.spot (if nat_lt other place then Before else After)) d

-- d breaks the pair rule
abbrev pub clashes_in_rule : PairKind → (members : List ℕ) → Placing → (place : ℕ) → ℕ → Bool
clashes_in_rule kind members s place d = passes s (breaks_pair kind s.problem.travel (take place members) (drop place members) s.spot d) d

-- what a class has, where those that pass the test have nothing
abbrev pub spot_unless : (ℕ → Bool) → List (Option Spot) → ℕ → Option Spot
spot_unless out spots d = if out d then None else spot_at spots d

-- what a class that passes the test has in the plan
abbrev pub lent_spot : (ℕ → Bool) → List (Option Spot) → ℕ → Option Spot
lent_spot out spots d = if out d then spot_at spots d else None

-- the class c and the listed ones
abbrev pub is_out : ℕ → List ℕ → ℕ → Bool
is_out c list d = (d == c) || is_listed d list

-- what the members have, and what is left of it once the class that is placed and the listed ones are taken out
abbrev pub spots_of : code.Placing.Placing → (members : List ℕ) → List (Option Spot)
spots_of s members = map (spot_at s.occupancy.now.spots) members

abbrev pub spots_left : code.Placing.Placing → (list members : List ℕ) → List (Option Spot)
spots_left s list members = map (spot_unless (is_out s.class list) s.occupancy.now.spots) members

-- the listed classes, and behind them those that have to go for the rule of a group
abbrev pub with_group : {M : Type 0} → (shape : M → List ℕ) → (sum : List ℕ → Table → List (Option Spot) → ℕ) → code.Placing.Placing → M → (members list : List ℕ) → List ℕ
with_group shape sum s group members list = list ++ out_for (sum (shape group) s.problem.now.travel) members (placing_of s) list

-- each listed class has a spot that overlaps in the room
abbrev pub AreClashing : code.Placing.Placing → List ℕ → Type 0
AreClashing s list = (d : ℕ) → is_listed d list ≡ true → clashes_in_room s.occupancy.now.spots s.class s.spot d ≡ true

-- each class in the room on a day whose spot overlaps is listed
abbrev pub AreListedOn : code.Placing.Placing → (day : ℕ) → List ℕ → Type 0
AreListedOn s day list =
    (d : ℕ) → is_on s.spot.room day (spot_at s.occupancy.now.spots d) ≡ true → clashes_in_room s.occupancy.now.spots s.class s.spot d ≡ true → is_listed d list ≡ true

-- each class that was listed is listed
abbrev pub AreStillListed : (old new : List ℕ) → Type 0
AreStillListed old new = (d : ℕ) → is_listed d old ≡ true → is_listed d new ≡ true

-- The listed classes pass the test; and all that pass are listed, where no more than `most` are.
pub record AreListedWithin (most : ℕ) (test : ℕ → Bool) (list : List ℕ) : Type 0 where
  pub pass : (d : ℕ) → is_listed d list ≡ true → test d ≡ true
  pub all : length list ≤ most → (d : ℕ) → is_listed d list ≡ test d

-- The classes found are the list, where they are no more than `most`; else the list, too, has more than `most`.
pub record IsFoundWithin (most : ℕ) (list found : List ℕ) : Type 0 where
  pub all : length found ≤ most → found ≡ list
  pub longer : most < length found → most < length list
