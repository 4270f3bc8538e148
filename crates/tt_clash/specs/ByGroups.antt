-- Contract. The conflict set by the groups of the rules, at a placing that the code is handed.
use Rattle.std.specs.Prelude.{ℕ, List, All, Option}
use Rattle.tt_bits.specs.declared.times.Spot.{Spot}
use Rattle.tt_travel.specs.Table.{Table}
use Rattle.tt_problem.specs.RulePlaces.{rules_of}
use Rattle.tt_clash.specs.declared.placing as code
use Rattle.tt_clash.specs.Placings.{placing_of}
use Rattle.tt_clash.specs.ConflictSet.{conflict_set}
use Rattle.tt_clash.specs.Freed.{IsFreeAlone, IsFreedRule}
use Rattle.tt_clash.specs.Groups.{amounts_of, AreHeldBy}

-- the groups are those of the problem's rules, and hold the spots that the members have
abbrev pub AreHeldAt : {M : Type 0} → (held : M → List (Option Spot)) → (weeks : M → ℕ) → (fits : M → Table → Type 0) → code.Placing.Placing → List M → Type 0
AreHeldAt held weeks fits s groups = AreHeldBy held weeks fits s.problem.now s.occupancy.now.spots groups

-- the amount of the rule at a place by its group
abbrev pub amounts_at : {M : Type 0} → (shape : M → List ℕ) → (sum : List ℕ → Table → List (Option Spot) → ℕ) → code.Placing.Placing → List M → ℕ → List (Option Spot) → ℕ
amounts_at shape sum s groups = amounts_of shape sum s.problem.now.travel groups

-- which classes have to go, by the amounts of the groups
abbrev pub conflict_set_at : {M : Type 0} → (shape : M → List ℕ) → (sum : List ℕ → Table → List (Option Spot) → ℕ) → code.Placing.Placing → List M → List ℕ
conflict_set_at shape sum s groups = conflict_set (amounts_at shape sum s groups) (placing_of s)

-- each required group rule of the class has amount 0 with the class alone at its spot
abbrev pub AreFreeAlone : {M : Type 0} → (shape : M → List ℕ) → (sum : List ℕ → Table → List (Option Spot) → ℕ) → code.Placing.Placing → List M → Type 0
AreFreeAlone shape sum s groups = All (IsFreeAlone (amounts_at shape sum s groups) (placing_of s)) (rules_of s.problem.now s.class)

-- of each required group rule of the class, some front of the listed classes brings the amount to 0
abbrev pub AreFreed : {M : Type 0} → (shape : M → List ℕ) → (sum : List ℕ → Table → List (Option Spot) → ℕ) → code.Placing.Placing → List M → (listed : List ℕ) → Type 0
AreFreed shape sum s groups listed = All (IsFreedRule (amounts_at shape sum s groups) (placing_of s) listed) (rules_of s.problem.now s.class)
