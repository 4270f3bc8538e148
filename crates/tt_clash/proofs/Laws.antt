-- The laws of blocked values and conflict sets: what makes the conflict set one, and what a force frees.
-- `placing` is a class that is forced to a spot among the others, and `amounts` gives the amount of a
-- rule by its place and what its members have.
use Rattle.std.proofs.Common.{◌≡◌, ℕ, ◌<◌, true, false, List, Option, None, ◌++◌, length}
use Rattle.std.specs.Prelude.{All, take, filter, nat_eq, ◌==◌}
use Rattle.std.specs.List.{IsDistinct}
use Rattle.tt_bits.specs.declared.times.Closure.{Closure}
use Rattle.tt_bits.specs.declared.times.Spot.{Spot}
use Rattle.tt_travel.specs.Table.{Table}
use Rattle.tt_measure.specs.Removals.{IsPart}
use Rattle.tt_problem.specs.declared.parts.DistKind.{DistKind}
use Rattle.tt_problem.specs.Kinds.{stays_at_0}
use Rattle.tt_problem.specs.RulePlaces.{rules_of}
use Rattle.tt_problem.specs.Valid.{IsValid}
use Rattle.tt_clash.specs.Amounts.{kind_amount, rule_amounts}
use Rattle.tt_clash.specs.Blocked.{blocked_by}
use Rattle.tt_clash.specs.ConflictSet.{can_go, amount_with, clashing, conflict_set, out_for}
use Rattle.tt_clash.specs.Forced.{AreForced, FitsAmong, IsOther}
use Rattle.tt_clash.specs.Freed.{IsFreeAlone, IsFreedRule}
use Rattle.tt_clash.specs.Placings.{Placing}
use Rattle.tt_clash.specs.Rules.{alone}
use Rattle.tt_clash.proofs.AmountLemmas.{free-from_open}
use Rattle.tt_clash.proofs.ForcedLemmas.{fits-forced, part-at_0}
use Rattle.tt_clash.proofs.FreedLemmas.{freed-all, front-is, front-shortest, out-frees}
use Rattle.tt_clash.proofs.SetLemmas.{conflict_set-distinct, conflict_set-others, differ-valid}

-- each class of the conflict set is another than the class, and is placed
pub others : (amounts : ℕ → List (Option Spot) → ℕ) (placing : Placing) → All (IsOther placing) (conflict_set amounts placing)
others = conflict_set-others

-- no class stands twice in the conflict set
pub distinct : (amounts : ℕ → List (Option Spot) → ℕ) (placing : Placing) → IsValid placing.problem → IsDistinct nat_eq (conflict_set amounts placing)
distinct amounts placing valid = conflict_set-distinct amounts placing (differ-valid placing.problem valid)

-- what goes for a required group rule is a front of its remaining placed members without the class
pub front : (amount : List (Option Spot) → ℕ) (members : List ℕ) (placing : Placing) (out : List ℕ)
    → out_for amount members placing out ≡ take (length (out_for amount members placing out)) (filter (can_go placing out) members)
front amount members placing out = front-is (amount_with amount members placing) out (filter (can_go placing out) members)

-- the front brings the amount to 0 where the class alone has amount 0
pub front_frees : (amount : List (Option Spot) → ℕ) (members : List ℕ) (placing : Placing) (out : List ℕ)
    → amount (alone placing.class placing.spot members) ≡ 0 → amount_with amount members placing (out ++ out_for amount members placing out) ≡ 0
front_frees = out-frees

-- no shorter front does
pub no_shorter : (amount : List (Option Spot) → ℕ) (members : List ℕ) (placing : Placing) (out : List ℕ) (k : ℕ)
    → k < length (out_for amount members placing out) → (amount_with amount members placing (out ++ take k (filter (can_go placing out) members)) == 0) ≡ false
no_shorter amount members placing out k within = front-shortest (amount_with amount members placing) out (filter (can_go placing out) members) k within

-- where each required group rule with the class has amount 0 with the class alone, a front of the
-- conflict set frees each of them
pub frees : (amounts : ℕ → List (Option Spot) → ℕ) (placing : Placing) → All (IsFreeAlone amounts placing) (rules_of placing.problem placing.class)
    → All (IsFreedRule amounts placing (conflict_set amounts placing)) (rules_of placing.problem placing.class)
frees amounts placing free = freed-all amounts placing (clashing placing) (rules_of placing.problem placing.class) free

-- where the class isn't blocked, each required group rule with it has amount 0 with it alone
pub unblocked : (closures : List Closure) (placing : Placing) → blocked_by placing.problem closures placing.class placing.spot ≡ None
    → All (IsFreeAlone (rule_amounts placing.problem) placing) (rules_of placing.problem placing.class)
unblocked = free-from_open

-- taking out members never takes the amount of MaxDays, MaxWeeks, MaxDayLoad and MaxBlock from 0
pub removal : (kind : DistKind) (weeks : ℕ) (t : Table) (after before : List (Option Spot)) → stays_at_0 kind ≡ true → IsPart after before
    → kind_amount kind weeks t before ≡ 0 → kind_amount kind weeks t after ≡ 0
removal = part-at_0

-- after a force of a class that isn't blocked, its room is closed then neither by the file nor by a
-- closure that isn't lifted, no placed class overlaps it there, no pair with it breaks a required pair
-- rule, and each required rule with it of MaxDays, MaxWeeks, MaxDayLoad and MaxBlock has amount 0; a
-- required MaxBreaks rule may be broken, since a later removal can split a block
pub forced : (closures : List Closure) (placing : Placing) (after : List (Option Spot)) → blocked_by placing.problem closures placing.class placing.spot ≡ None
    → AreForced placing (conflict_set (rule_amounts placing.problem) placing) after
    → FitsAmong closures (record { problem = placing.problem; spots = after; class = placing.class; spot = placing.spot })
forced = fits-forced
