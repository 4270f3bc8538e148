-- Lists in order, while items come and go.
use Rattle.std.proofs.Common.{◌≡◌, ◌∙◌, sym, inl, inr, ℕ, ◌+◌, ◌-◌, ◌<◌, ◌≤◌, List, [], length, get_or, arith, Bool, get_or-set_same, get_or-set_other}
use Rattle.std.specs.Prelude.{◌==◌, nat_lt, not, slice_set, slice_index_or}
use Rattle.std.specs.List.{insert, remove, position_or_len}
use Rattle.std.specs.List.Sorted.{IsNonDecreasing}
use Rattle.std.proofs.lemmas.Bool.{cases_eq, cases_lt, ltb-true, ltb-false, eqb-true, le-ltb}
use Rattle.std.proofs.lemmas.List.{same_lists}
use Rattle.std.proofs.lemmas.List.Sums.{position_or_len_is, fails_before_first, passes_at_first, prefix_len-le-length}
use Rattle.std.proofs.lemmas.Grind.{get_or_default_zero}
use Rattle.std.proofs.lemmas.List.Edits.{get_or-remove_below, get_or-remove_above, length-remove}
use Rattle.std.proofs.lemmas.List.Sorted.{IsNonDecreasingBy-insert, IsNonDecreasingBy-from_default}
use Rattle.tt_pool.specs.Chains.{uses}
use Rattle.tt_pool.proofs.Search.{found_at}

place_within : (f : ℕ → Bool) (xs : List ℕ) → position_or_len f xs ≤ length xs
place_within f xs = prefix_len-le-length (λ x. not (f x)) xs

pub ascends-insert : (item : ℕ) (xs : List ℕ) → IsNonDecreasing xs → IsNonDecreasing (insert xs (position_or_len (nat_lt item) xs) item)
ascends-insert item xs s =
    IsNonDecreasingBy-insert (λ x. x) xs at item s (place_within (nat_lt item) xs)
    (λ k d lt. ltb-false item (get_or xs k d) (fails_before_first (nat_lt item) xs k d lt))
    (λ k d le lt.
    let above : item < get_or xs at d = ltb-true item (get_or xs at d) (passes_at_first (nat_lt item) xs d (omega (arith, le, lt))) in
    let up : get_or xs at d ≤ get_or xs k d = s at k d le lt in
    omega arith)
  where
    at : ℕ
    at = position_or_len (nat_lt item) xs

pub ascends-remove : (at : ℕ) (xs : List ℕ) → at < length xs → IsNonDecreasing xs → IsNonDecreasing (remove xs at)
ascends-remove at xs lt s = IsNonDecreasingBy-from_default (λ x. x) (remove xs at) 0 up
  where
    less : length (remove xs at) + 1 ≡ length xs
    less = length-remove xs at lt

    up : (i j : ℕ) → i ≤ j → j < length (remove xs at) → get_or (remove xs at) i 0 ≤ get_or (remove xs at) j 0
    up i j le lt_j = elim (cases_lt i at) [
      | inl i_lt ↦ elim (cases_lt j at) [
        | inl j_lt ↦ rw (get_or-remove_below xs at 0 i i_lt lt, get_or-remove_below xs at 0 j j_lt lt) (s i j 0 le (omega (arith, less, lt_j)))
        | inr j_ge ↦ rw (get_or-remove_below xs at 0 i i_lt lt, get_or-remove_above xs at 0 j j_ge lt) (s i (j + 1) 0 (omega (arith, le)) (omega (arith, less, lt_j)))
      ]
      | inr i_ge ↦
          rw (get_or-remove_above xs at 0 i i_ge lt, get_or-remove_above xs at 0 j (omega (arith, le, i_ge)) lt)
          (s (i + 1) (j + 1) 0 (omega (arith, le)) (omega (arith, less, lt_j)))
    ]

-- one list is changed, and all are in order
pub ascends-set : (lists : List (List ℕ)) (l : ℕ) (xs : List ℕ) → l < length lists → ((m : ℕ) → IsNonDecreasing (slice_index_or lists m []))
    → IsNonDecreasing xs → (m : ℕ) → IsNonDecreasing (slice_index_or (slice_set lists l xs) m [])
ascends-set lists l xs lt s new m = elim (cases_eq m l) [
  | inl e ↦ rw (e, get_or-set_same lists l xs [] lt) new
  | inr ne ↦ rw (get_or-set_other lists l m xs [] ne) (s m)
]

-- no item is above one that the last isn't above
pub none_above : (item : ℕ) (xs : List ℕ) → IsNonDecreasing xs → 0 < length xs → get_or xs (length xs - 1) 0 ≤ item
    → length xs ≡ position_or_len (nat_lt item) xs
none_above item xs s some le =
    sym (position_or_len_is (nat_lt item) xs (length xs) 0 (omega arith)
    (λ k lt. let up : get_or xs k 0 ≤ get_or xs (length xs - 1) 0 = s k (length xs - 1) 0 (omega arith) (omega arith) in
    le-ltb item (get_or xs k 0) (omega arith))
    (λ here. absurd (omega arith)))

-- where the last item is the one that goes, it may go in place of the first that is like it
pub last_taken : (item : ℕ) (xs : List ℕ) → IsNonDecreasing xs → 0 < uses item xs → get_or xs (length xs - 1) 0 ≡ item
    → remove xs (length xs - 1) ≡ remove xs (position_or_len (λ x. x == item) xs)
last_taken item xs s used last = same_lists (remove xs end) (remove xs at) (omega (arith, less_end, less_at)) same
  where
    at : ℕ
    at = position_or_len (λ x. x == item) xs

    end : ℕ
    end = length xs - 1

    at_lt : at < length xs
    at_lt = found_at item xs used

    end_lt : end < length xs
    end_lt = omega (arith, at_lt)

    less_end : length (remove xs end) + 1 ≡ length xs
    less_end = length-remove xs end end_lt

    less_at : length (remove xs at) + 1 ≡ length xs
    less_at = length-remove xs at at_lt

    first_is : get_or xs at 0 ≡ item
    first_is = eqb-true (get_or xs at 0) item (passes_at_first (λ x. x == item) xs 0 at_lt)

    like : (k : ℕ) → at ≤ k → k < length xs → get_or xs k 0 ≡ item
    like k le lt =
        let low : get_or xs at 0 ≤ get_or xs k 0 = s at k 0 le lt in
        let high : get_or xs k 0 ≤ get_or xs end 0 = s k end 0 (omega arith) end_lt in
        omega (arith, low, high, first_is, last)

    at_end : (k d : ℕ) → k < length (remove xs end) → get_or (remove xs end) k d ≡ get_or xs k 0
    at_end k d lt = get_or-remove_below xs end d k (omega (arith, less_end, lt)) end_lt ∙ get_or_default_zero xs k d (omega (arith, less_end, lt))

    same : (k d : ℕ) → k < length (remove xs end) → get_or (remove xs end) k d ≡ get_or (remove xs at) k d
    same k d lt = elim (cases_lt k at) [
      | inl below ↦ at_end k d lt ∙ sym (get_or-remove_below xs at d k below at_lt ∙ get_or_default_zero xs k d (omega (arith, below, at_lt)))
      | inr ge ↦
          at_end k d lt ∙ like k ge (omega (arith, less_end, lt))
          ∙ sym (get_or-remove_above xs at d k ge at_lt ∙ get_or_default_zero xs (k + 1) d (omega (arith, less_end, lt)) ∙ like (k + 1) (omega (arith, ge)) (omega (arith, less_end, lt)))
    ]
