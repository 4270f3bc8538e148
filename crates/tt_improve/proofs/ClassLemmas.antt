-- A class that moves to a lower value.
use Rattle.std.proofs.Common.{◌≡◌, ◌≢◌, ℕ, nat_le, ◌+◌, ◌<◌, ◌≤◌, Bool, true, false, cond, List, [], ◌∷◌, Option, Some, None, length, drop, refl, sym, ap, ◌∙◌, arith, nat_lt}
use Rattle.std.specs.Prelude.{◌&&◌, ◌==◌, not, is_some, IfSome, slice_get, slice_set, option_and_then, if◌then◌else◌}
use Rattle.std.specs.Option.{is_none, option_map}
use Rattle.std.specs.List.{filter}
use Rattle.std.proofs.lemmas.Bool.{and_parts, eqb-true, le-ltb, ltb-true}
use Rattle.std.proofs.lemmas.List.{drop_all, get_or-set_other, set-get_or}
use Rattle.std.proofs.lemmas.Bool.Decides.{nat_tests}
use Rattle.tt_base.specs.Lists.{first_least}
use Rattle.tt_base.proofs.ListLemmas.{drop_at}
use Rattle.tt_bits.specs.declared.times.Value.{Value}
use Rattle.tt_problem.specs.declared.parts.Parts.{Parts}
use Rattle.tt_problem.specs.Valid.{IsValid}
use Rattle.tt_plan.specs.Domain.{domain_of}
use Rattle.tt_clash.specs.declared.Block.{Block}
use Rattle.tt_clash.specs.Amounts.{rule_amounts}
use Rattle.tt_clash.specs.Blocked.{blocked_by}
use Rattle.tt_clash.specs.ConflictSet.{conflict_set}
use Rattle.tt_score.specs.Forcing.{among}
use Rattle.tt_score.specs.Totals.{totals_of}
use Rattle.tt_state.specs.Snapshots.{Snapshot, StaysLocked, is_locked_in, may_lock, value_in, with_value}
use Rattle.tt_state.specs.Values.{blocked_of, conflict_set_of, total_with}
use Rattle.tt_improve.specs.declared.classes.Best.{Best}
use Rattle.tt_improve.specs.Below.{lower_of, lowest_after, nothing_below}
use Rattle.tt_improve.specs.Classes.{is_free, total_of, least_value, at_lower}
use Rattle.tt_improve.specs.Changed.{changed_class}
use Rattle.tt_improve.specs.Standing.{IsLower, IsMovable, IsNoWorse}
use Rattle.tt_improve.proofs.BelowLemmas.{least_below}
use Rattle.tt_improve.proofs.FallLemmas.{spot_of_value, hard-falls}
use Rattle.tt_improve.proofs.TargetLemmas.{changed-class_targets}

-- what is known of the best so far: its total is no higher than the bound, and what was found is below it
pub record IsBestBelow (Of : Value → Type 0) (free : Value → Bool) (total : Value → ℕ) (bound : ℕ) (best : Best) : Type 0 where
  pub low : best.total ≤ bound
  pub found : IfSome best.value (λ v. Of v × (free v ≡ true) × (total v < bound))

pub best_nothing : (Of : Value → Type 0) (free : Value → Bool) (total : Value → ℕ) (bound : ℕ) → IsBestBelow Of free total bound (nothing_below bound)
best_nothing Of free total bound = record { low = omega arith; found = tt }

pub best_next : (Of : Value → Type 0) (free : Value → Bool) (total : Value → ℕ) (bound : ℕ) (best : Best) (v : Value) → Of v → IsBestBelow Of free total bound best → IsBestBelow Of free total bound (lower_of free total best v)
best_next Of free total bound best v of h = by (nat_lt (total v) best.total) (free v) refl refl
  where
    by : (low is : Bool) → nat_lt (total v) best.total ≡ low → free v ≡ is → IsBestBelow Of free total bound (cond (low && is) (record { total = total v; value = Some v }) best)
    by true true b e =
        let lt = ltb-true (total v) best.total b in
        record { low = omega (arith, lt, h.low); found = (of, e, omega (arith, lt, h.low)) }
    by true false b e = h
    by false is b e = h

-- no class is within none
pub none_within : (n : ℕ) → nat_le n 0 ≡ (n == 0)
none_within n = by (nat_le n 0) (n == 0) refl refl
  where
    by : (a b : Bool) → nat_le n 0 ≡ a → (n == 0) ≡ b → a ≡ b
    by true true p q = refl
    by false false p q = refl
    by true false p q = grind (arith, nat_tests)
    by false true p q = grind (arith, nat_tests)

-- the value that the class has is no better: with it the total is the present one
pub own_no_better : (p : Parts) (s : Snapshot) (class : ℕ) (v : Value) (best : Best) → value_in s class ≡ Some v → best.total ≤ total_of p s → best ≡ lower_of (is_free p s class) (total_with p s class) best v
unfolding total_with
own_no_better p s class v best is low =
    let same : slice_set s.plan class (Some v) ≡ s.plan = ap (slice_set s.plan class) (sym is) ∙ set-get_or s.plan class None in
    let total : total_with p s class v ≡ total_of p s = ap (λ plan. (totals_of p s.closures plan s.lists).total) same in
    let high : nat_lt (total_with p s class v) best.total ≡ false = le-ltb (total_with p s class v) best.total (omega (arith, total, low)) in
    rw high refl

-- the walk goes on over the values that are left
pub walk_next : (free : Value → Bool) (total : Value → ℕ) (domain : List Value) (k : ℕ) (v : Value) (start best now : Best) → slice_get domain k ≡ Some v → now ≡ lower_of free total best v
    → lowest_after free total best (drop k domain) ≡ lowest_after free total start domain → lowest_after free total now (drop (k + 1) domain) ≡ lowest_after free total start domain
walk_next free total domain k v start best now is step so_far =
    ap (λ (b : Best). lowest_after free total b (drop (k + 1) domain)) step ∙ ap (lowest_after free total best) (sym (drop_at domain k v is)) ∙ so_far

-- what the walk finds is where the round takes the class
pub walk_found : (p : Parts) (s : Snapshot) (class : ℕ) (found : Option Value) → found ≡ (lowest_after (is_free p s class) (total_with p s class) (nothing_below (total_of p s)) (domain_of p class)).value
    → changed_class p s class ≡ option_map (λ v. with_value s class (Some v)) found
unfolding changed_class least_value
walk_found p s class found is =
    by (first_least (λ v. total_with p s class v ∷ []) (filter (is_free p s class) (domain_of p class)))
    (is ∙ least_below (is_free p s class) (total_with p s class) (total_of p s) (domain_of p class))
  where
    by : (o : Option Value) → found ≡ option_and_then (λ v. if nat_lt (total_with p s class v) (total_of p s) then Some v else None) o → option_and_then (at_lower p s class) o ≡ option_map (λ v. with_value s class (Some v)) found
    by None e = rw e refl
    by (Some v) e = rw e (low (nat_lt (total_with p s class v) (total_of p s)))
      where
        low : (b : Bool) → (if b then Some (with_value s class (Some v)) else None) ≡ option_map (λ w. with_value s class (Some w)) (if b then Some v else None)
        low true = refl
        low false = refl

pub none_is : (o : Option Block) → is_none o ≡ true → o ≡ None
none_is None e = refl
none_is (Some b) e = absurd (cc e)

pub empty_is : (xs : List ℕ) → length xs ≡ 0 → xs ≡ []
empty_is [] e = refl
empty_is (x ∷ xs) e = absurd (omega arith)

-- a class that isn't locked moves, and the locked ones stay
others_stay : (s : Snapshot) (class : ℕ) (v : Value) → may_lock s class ≡ true → (d : ℕ) → StaysLocked s (with_value s class (Some v)) d
others_stay s class v free d locked = (get_or-set_other s.plan class d (Some v) None apart, locked)
  where
    never : (b : Bool) → not b ≡ true → b ≡ true → ⊥
    never true open_one is = cc
    never false open_one is = cc

    apart : d ≢ class
    apart same = never (is_locked_in s class) (and_parts (is_some (value_in s class)) (not (is_locked_in s class)) free).1 (rw same at locked)

-- a lower value makes the snapshot no worse
pub lower_no_worse : (p : Parts) (s : Snapshot) (class : ℕ) (v : Value) → IsValid p → length s.plan ≡ length p.classes → IsMovable p s class → IsLower p s class v → IsNoWorse p s (with_value s class (Some v))
unfolding blocked_of conflict_set_of total_with
lower_no_worse p s class v valid whole target lower =
    let spot = spot_of_value p class v lower.domain in
    let free = and_parts (is_none (blocked_of p s.closures class v)) (length (conflict_set_of p s class v) == 0) lower.free in
    let open_value : blocked_by p s.closures class spot.0 ≡ None = rw spot.1 at (none_is (blocked_of p s.closures class v) free.0) in
    let empty : conflict_set (rule_amounts p) (among p s.plan class spot.0) ≡ [] = rw spot.1 at (empty_is (conflict_set_of p s class v) (eqb-true (length (conflict_set_of p s class v)) 0 free.1)) in
    record {
      total = omega (arith, lower.lower);
      hard = hard-falls p s.closures s.plan s.lists class v spot.0 valid (omega (arith, whole, target.within)) spot.1 open_value empty;
      statistics = refl;
      closures = refl;
      targets = changed-class_targets p s class v target.free;
      locked = others_stay s class v target.free;
    }

-- a whole walk
pub walk_done : (free : Value → Bool) (total : Value → ℕ) (domain : List Value) (k : ℕ) (start best : Best) → length domain ≤ k → lowest_after free total best (drop k domain) ≡ lowest_after free total start domain → best.value ≡ (lowest_after free total start domain).value
walk_done free total domain k start best past so_far =
    let none : drop k domain ≡ [] = drop_all k domain past in
    ap (λ (b : Best). b.value) (sym (ap (lowest_after free total best) none) ∙ so_far)
