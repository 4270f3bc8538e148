-- What prices of groups make sure of, and the sums of the numbers up to a price.
use Rattle.std.proofs.Common.{◌≡◌, ℕ, suc, zero, ◌+◌, ◌*◌, ◌/◌, ◌<◌, ◌≤◌, All, Bool, true, cond, List, [], ◌∷◌, length, get_or, count_by, sum_by, arith, refl, sym, ap, inl, inr, ◌⊎◌, get_or-set_other, get_or-set_same}
use Rattle.std.specs.Prelude.{slice_set}
use Rattle.std.proofs.Math.Nat.{mul-le-mul}
use Rattle.std.proofs.lemmas.Bool.{cases_lt, cases_eq}
use Rattle.std.proofs.lemmas.List.{length-set, get_or_past}
use Rattle.std.proofs.lemmas.List.Sums.{sum_by-cons, sum_by-set}
use Rattle.tt_base.specs.Among.{pairs_among}
use Rattle.tt_least.specs.Prices.{numbers_up_to, owed_of}

-- the price of the group of a class, and 0 where it is in none of the groups that have a price
abbrev pub price_of : (group : ℕ → ℕ) → (prices : List ℕ) → ℕ → ℕ
price_of group prices c = get_or prices (group c) 0

module _ (f : ℕ → ℕ → Bool) (group : ℕ → ℕ) (count : ℕ) (h : (c d : ℕ) → group c < count → group c ≡ group d → f c d ≡ true) where
  -- where the price of a class's group is one less, the prices of a choice are less by its pairs with the class at most
  price-lowered : (c t : ℕ) (prices choice : List ℕ) → group c < length prices → group c < count → get_or prices (group c) 0 ≡ suc t
      → sum_by (price_of group prices) choice ≤ sum_by (price_of group (slice_set prices (group c) t)) choice + count_by (f c) choice
  price-lowered c t prices [] within lt is = omega arith
  price-lowered c t prices (d ∷ choice) within lt is =
      let one = each (cases_eq (group d) (group c)) in
      omega (arith, one, price-lowered c t prices choice within lt is, sum_by-cons (price_of group prices) d choice, sum_by-cons (price_of group (slice_set prices (group c) t)) d choice, sum_by-cons (λ (b : ℕ). cond (f c b) 1 0) d choice)
    where
      each : (group d ≡ group c) ⊎ (group d ≡ group c → ⊥) → price_of group prices d ≤ price_of group (slice_set prices (group c) t) d + cond (f c d) 1 0
      each (inl e) =
          let pair : f c d ≡ true = h c d lt (sym e) in
          let new : get_or (slice_set prices (group c) t) (group c) 0 ≡ t = get_or-set_same prices (group c) t 0 within in
          rw (pair, e, is, new) (omega arith)
      each (inr ne) =
          let same : get_or (slice_set prices (group c) t) (group d) 0 ≡ get_or prices (group d) 0 = get_or-set_other prices (group c) (group d) t 0 ne in
          rw same (omega arith)

  -- one more class at the front pays no more than its pairs and what is owed
  paid-more : (c : ℕ) (choice : List ℕ) → ((prices : List ℕ) → length prices ≤ count → sum_by (price_of group prices) choice ≤ pairs_among f choice + owed_of prices)
      → (prices : List ℕ) → length prices ≤ count → sum_by (price_of group prices) (c ∷ choice) ≤ pairs_among f (c ∷ choice) + owed_of prices
  paid-more c choice all prices few = by_price (get_or prices (group c) 0) refl (cases_lt (group c) (length prices))
    where
      more : sum_by (price_of group prices) (c ∷ choice) ≡ get_or prices (group c) 0 + sum_by (price_of group prices) choice
      more = sum_by-cons (price_of group prices) c choice

      none : get_or prices (group c) 0 ≡ 0 → sum_by (price_of group prices) (c ∷ choice) ≤ pairs_among f (c ∷ choice) + owed_of prices
      none e = omega (arith, e, more, all prices few)

      by_price : (t : ℕ) → get_or prices (group c) 0 ≡ t → (group c < length prices) ⊎ (length prices ≤ group c)
          → sum_by (price_of group prices) (c ∷ choice) ≤ pairs_among f (c ∷ choice) + owed_of prices
      by_price zero e place = none e
      by_price (suc t) e (inr out) = none (get_or_past prices (group c) 0 out)
      by_price (suc t) e (inl within) =
          let less = slice_set prices (group c) t in
          let paid = all less (omega (arith, few, length-set prices (group c) t)) in
          let lowered = price-lowered c t prices choice within (omega arith) e in
          let owed : owed_of less + numbers_up_to (get_or prices (group c) 0) ≡ owed_of prices + numbers_up_to t = sum_by-set numbers_up_to prices (group c) t 0 within in
          let first : numbers_up_to (get_or prices (group c) 0) ≡ suc t + numbers_up_to t = ap numbers_up_to e in
          omega (arith, more, e, paid, lowered, owed, first)

  -- the prices of a choice are no more than its pairs and what is owed for the prices
  pub prices-paid : (choice prices : List ℕ) → length prices ≤ count → sum_by (price_of group prices) choice ≤ pairs_among f choice + owed_of prices
  prices-paid [] prices few = omega arith
  prices-paid (c ∷ choice) prices few = paid-more c choice (prices-paid choice) prices few

-- twice the sum of the numbers up to one is its product with the next
twice-numbers : (n : ℕ) → numbers_up_to n + numbers_up_to n ≡ n * (n + 1)
twice-numbers zero = refl
twice-numbers (suc n) = omega (arith, twice-numbers n)

-- half of the product of a number with the next is the sum of the numbers up to it
pub half-product : (n : ℕ) → n * (n + 1) / 2 ≡ numbers_up_to n
half-product n = omega (arith, twice-numbers n)

-- the numbers up to a price come to no more than those up to the highest
pub numbers-few : (n m : ℕ) → n ≤ m → numbers_up_to n + numbers_up_to n ≤ m * (m + 1)
numbers-few n m le = omega (arith, twice-numbers n, mul-le-mul {n₁ = n} {m₁ = n + 1} {n₂ = m} {m₂ = m + 1} le (omega arith))

-- what is owed for prices that are no higher than the highest
pub owed-few : (prices : List ℕ) → All (λ price. price ≤ 65535) prices → owed_of prices ≤ length prices * 2147450880
owed-few [] few = omega arith
owed-few (price ∷ prices) few =
    let one = numbers-few price 65535 (few 0 0 (omega arith)) in
    let rest = owed-few prices (λ k d below. few (suc k) d (omega arith)) in
    omega (arith, one, rest, sum_by-cons numbers_up_to price prices)
