-- The conflicting pairs with each class, counted pair by pair and student by student.
use Rattle.std.proofs.Common.{◌≡◌, ℕ, zero, suc, ◌+◌, ◌-◌, ◌<◌, ◌≤◌, Bool, true, false, cond, List, ◌∷◌, ◌++◌, Option, Some, None, length, take, replicate, refl, arith}
use Rattle.std.specs.Prelude.{◌==◌, slice_index, sum_by}
use Rattle.std.specs.List.{range_with_len}
use Rattle.std.specs.Option.{option_map_or}
use Rattle.std.proofs.Math.Seq.{take-append_seam}
use Rattle.std.proofs.lemmas.List.Sums.{sum_by-append, sum_by-cons}
use Rattle.tt_bits.specs.declared.times.Spot.{Spot}
use Rattle.tt_bits.specs.Spots.{spot_at}
use Rattle.tt_problem.specs.declared.parts.Parts.{Parts}
use Rattle.tt_plan.specs.Domain.{spots_of}
use Rattle.tt_roster.specs.Conflicts.{class_conflicts}
use Rattle.tt_roster.proofs.ConflictLemmas.{class_conflicts-most}
use Rattle.tt_state.specs.Snapshots.{Snapshot}
use Rattle.tt_verify.specs.Pairs.{pairs_with, related_pairs}
use Rattle.tt_explain.specs.Explain.{pair_count}
use Rattle.tt_explain.specs.Pairs.{times_in}

-- ---- pair by pair

-- the pairs with one later class more
pub times_more : (related : ℕ → ℕ → Bool) (class x : ℕ) (left rest : List ℕ) (other : ℕ) → left ≡ other ∷ rest
    → times_in x (pairs_with related class left) ≡ cond (related class other) (cond (class == x) 1 0 + cond (other == x) 1 0) 0 + times_in x (pairs_with related class rest)
times_more related class x left rest other next = rw next (by (related class other) refl)
  where
    by : (b : Bool) → related class other ≡ b
        → times_in x (pairs_with related class (other ∷ rest)) ≡ cond b (cond (class == x) 1 0 + cond (other == x) 1 0) 0 + times_in x (pairs_with related class rest)
    by true is = rw is (sum_by-cons (λ (pair : ℕ × ℕ). cond (pair.0 == x) 1 0 + cond (pair.1 == x) 1 0) (class, other) (pairs_with related class rest))
    by false is = rw is (omega arith)

-- the pairs of a list are those with its first class, and those of the others
pub times_parted : (related : ℕ → ℕ → Bool) (x : ℕ) (left rest : List ℕ) (class : ℕ) → left ≡ class ∷ rest
    → times_in x (related_pairs related left) ≡ times_in x (pairs_with related class rest) + times_in x (related_pairs related rest)
times_parted related x left rest class next = rw next (sum_by-append (λ (pair : ℕ × ℕ). cond (pair.0 == x) 1 0 + cond (pair.1 == x) 1 0) (pairs_with related class rest) (related_pairs related rest))

-- ---- student by student

-- before the first student nothing is counted
pub none_counted : (n class : ℕ) → slice_index (replicate n 0) class ≡ 0
none_counted zero class = refl
none_counted (suc n) zero = refl
none_counted (suc n) (suc class) = none_counted n class

-- what the students from a place on add is what the first of them adds, and the others
pub student_more : (f : ℕ → ℕ) (k n : ℕ) → k < n → sum_by f (range_with_len k (n - k)) ≡ f k + sum_by f (range_with_len (k + 1) (n - (k + 1)))
student_more f k n within =
    let e : n - k ≡ suc (n - (k + 1)) = omega (arith, within) in
    rw e (sum_by-cons f k (range_with_len (k + 1) (n - (k + 1))))

-- what is written to the whole of a list is the list then
pub whole_written : (n : ℕ) (xs ys : List ℕ) → n ≡ length xs → take n (xs ++ ys) ≡ xs
whole_written n xs ys whole = rw whole (take-append_seam xs ys)

-- no more than there are seats
pub few_pairs : (p : Parts) (s : Snapshot) (class : ℕ) → sum_by length s.lists ≤ 4000000 → pair_count p s class ≤ 4000000
unfolding pair_count
few_pairs p s class few = by (spot_at (spots_of p s.plan) class)
  where
    by : (o : Option Spot) → option_map_or (class_conflicts p.travel (spots_of p s.plan) s.lists class) o 0 ≤ 4000000
    by (Some x) = omega (arith, class_conflicts-most p.travel (spots_of p s.plan) class x s.lists, few)
    by None = omega arith
