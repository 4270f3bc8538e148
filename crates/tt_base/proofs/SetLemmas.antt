-- The words on sets, as what code computes on their numbers.
use Rattle.std.proofs.Common.{◌≡◌, refl, sym, ap, arith, lit≤, ℕ, zero, suc, ◌+◌, ◌/◌, ◌%◌, ◌<◌, ◌≤◌, ◌^◌, zero-add, add-one, pow-suc, Bool, true, false, not, ◌&&◌, ◌||◌, cond, List, get_or, inl, inr}
use Rattle.std.specs.Prelude.{count_by, ◌==◌, nat_lt, bit_and}
use Rattle.std.specs.Int.{bit_at, trailing_zeros, w8, w128, Width}
use Rattle.std.specs.Int.Count.{ones, ones_step}
use Rattle.std.specs.List.{list_any, list_all, range_with_len}
use mir.Val.{bits}
use Rattle.std.proofs.Math.Pow.{pow_mono}
use Rattle.std.proofs.lemmas.Bool.{cases_lt, cases_Bool, both_ways, and_parts}
use Rattle.std.proofs.lemmas.Bool.Decides.{Decides-eqb, Decides-ltb, nat_tests, same_from_decides}
use Rattle.std.proofs.lemmas.List.Folds.{list_any_at, list_all_at}
use Rattle.std.proofs.lemmas.List.FromFn.{length-range_with_len, get_or-range_with_len}
use Rattle.std.proofs.lemmas.List.Sums.{count_by-le-length, position_or_len_is, sum_by-cons}
use Rattle.std.proofs.lemmas.Nat.{and_le_l}
use Rattle.std.proofs.lemmas.Nat.Bits.{same_from_bits_below, bit_at_and, bit_at-trailing_zeros, bit_at-zero, bit_at-lt, shr_and_one, bit_at_above, bit_at_lowest, bit_at-suc}
use Rattle.tt_base.specs.Sets.{count, places, has, share, within, first}
use Rattle.tt_base.proofs.ListLemmas.{any_agree}

-- a place that passes shows that some place does
any_below : (p : ℕ → Bool) (n i : ℕ) → i < n → p i ≡ true → list_any p (range_with_len 0 n) ≡ true
any_below p n i h t =
    list_any_at p (range_with_len 0 n) i 0 (rw length-range_with_len h)
    (rw (get_or-range_with_len 0 n i 0 h, zero-add) t)

pub any_place : (p : ℕ → Bool) (i : ℕ) → i < 128 → p i ≡ true → list_any p places ≡ true
unfolding places
any_place p i h t = any_below p 128 i h t

-- a range with a place that passes
some_in : (p : ℕ → Bool) (a n : ℕ) → list_any p (range_with_len a n) ≡ true → (i : ℕ) × (i < a + n) × (p i ≡ true)
some_in p a zero h = absurd (cc)
some_in p a (suc n) h =
    elim (cases_Bool (p a)) [
      | inl t ↦ (a, omega arith, t)
      | inr f ↦
          let later : list_any p (range_with_len (a + 1) n) ≡ true = rw f at h in
          let r = some_in p (a + 1) n later in (r.0, omega arith, r.2)
    ]

pub some_place : (p : ℕ → Bool) → list_any p places ≡ true → (i : ℕ) × (i < 128) × (p i ≡ true)
unfolding places
some_place p h = some_in p 0 128 h

lt_from_ne : {n : ℕ} → (n ≡ 0 → ⊥) → 0 < n
lt_from_ne {n} h = elim (cases_lt 0 n) [ inl l ↦ l | inr g ↦ absurd (h (omega arith)) ]

bits_meet : (a b i : ℕ) → (bit_at a i == 1) ≡ true → (bit_at b i == 1) ≡ true → 0 < bit_and a b
bits_meet a b i p q =
    let e = bit_at_and a b i in
    let x : bit_at a i ≡ 1 = grind (arith, nat_tests) in
    let y : bit_at b i ≡ 1 = grind (arith, nat_tests) in
    let m : bit_at (bit_and a b) i ≡ 1 = rw (e, x, y) refl in
    lt_from_ne (λ z. let zero_bit : bit_at (bit_and a b) i ≡ 0 = rw z (bit_at-zero i) in absurd (omega arith))

-- two sets share a place where their words have a bit in common
pub share_word : (a b : ℕ) → a < 2 ^ 128 → b < 2 ^ 128 → share a b ≡ nat_lt 0 (bit_and a b)
unfolding share has
share_word a b ha hb = same_from_decides {P = 0 < bit_and a b} _ _ (forth, back) (Decides-ltb 0 (bit_and a b))
  where
    forth : list_any (λ i. has a i && has b i) places ≡ true → 0 < bit_and a b
    forth h = let s = some_place (λ i. has a i && has b i) h in let t = and_parts _ _ s.2 in bits_meet a b s.0 t.0 t.1

    back : 0 < bit_and a b → list_any (λ i. has a i && has b i) places ≡ true
    back h =
        let small : bit_and a b < 2 ^ 128 = omega (arith, and_le_l a b) in
        let z = bit_at-trailing_zeros w128 (bit_and a b) h small in
        let i = trailing_zeros w128 (bit_and a b) in
        let e = bit_at_and a b i in
        let x : bit_at a i ≡ 1 = omega (arith, z.1, e, bit_at-lt a i) in
        let y : bit_at b i ≡ 1 = omega (arith, z.1, e, bit_at-lt b i) in
        any_place (λ i. has a i && has b i) i z.0 (rw (x, y) refl)

pub and_turned : (a b : Bool) → (a && b) ≡ (b && a)
and_turned true true = refl
and_turned true false = refl
and_turned false true = refl
and_turned false false = refl

-- two sets share a place whichever comes first
pub share-sym : (a b : ℕ) → share a b ≡ share b a
unfolding share
share-sym a b = any_agree (λ i. has a i && has b i) (λ i. has b i && has a i) (λ i. and_turned (has a i) (has b i)) places

-- the first place is that of the lowest bit
first_word : (w : Width) → (n : ℕ) → 0 < n → n < 2 ^ bits w → bits w ≤ 128 → trailing_zeros w n ≡ first n
unfolding first has places
first_word w n h small wide =
    let z = bit_at-trailing_zeros w n h small in
    let t = trailing_zeros w n in
    let inside : t < 128 = omega (arith, z.0) in
    let ps : List ℕ = range_with_len 0 128 in
    sym (position_or_len_is (λ i. bit_at n i == 1) ps t 0 (omega arith)
    (λ k lt. let e : get_or ps k 0 ≡ 0 + k = get_or-range_with_len 0 128 k 0 (omega arith) in rw (e, zero-add) (rw (z.2 k lt) refl))
    (λ _. let e : get_or ps t 0 ≡ 0 + t = get_or-range_with_len 0 128 t 0 inside in rw (e, zero-add) (rw z.1 refl)))

pub first_byte : (n : ℕ) → 0 < n → n < 2 ^ 8 → trailing_zeros w8 n ≡ first n
first_byte n h small = first_word w8 n h small (lit≤ tt)

pub first_wide : (n : ℕ) → 0 < n → n < 2 ^ 128 → trailing_zeros w128 n ≡ first n
first_wide n h small = first_word w128 n h small (lit≤ tt)

pub has_word : (n i : ℕ) → (bit_and (n / 2 ^ i) 1 == 1) ≡ has n i
unfolding has
has_word n i = ap (λ m. m == 1) (shr_and_one n i)

-- a set below 2 ^ k has no place from k on
pub has_above : (n k i : ℕ) → n < 2 ^ k → k ≤ i → has n i ≡ false
unfolding has
has_above n k i h l = rw (bit_at_above n k i h l) refl

-- a count over a range that is moved by one
count_moved : (p q : ℕ → Bool) (a n : ℕ) → ((i : ℕ) → p (i + 1) ≡ q i) → count_by p (range_with_len (a + 1) n) ≡ count_by q (range_with_len a n)
count_moved p q a zero h = refl
count_moved p q a (suc n) h =
    let e1 = sum_by-cons (λ (i : ℕ). cond (p i) 1 0) (a + 1) (range_with_len (a + 1 + 1) n) in
    let e2 = sum_by-cons (λ (i : ℕ). cond (q i) 1 0) a (range_with_len (a + 1) n) in
    let e3 = count_moved p q (a + 1) n h in
    let e4 = ap {B = ℕ} (λ (b : Bool). cond b 1 0) (h a) in
    omega (arith, e1, e2, e3, e4)

bit_value : (s : ℕ) → cond (bit_at s 0 == 1) 1 0 ≡ s % 2
bit_value s = let e = bit_at_lowest s in let l = bit_at-lt s 0 in grind (arith, nat_tests)

-- the places of a range that are in a number below 2 ^ n
count_in : (n s : ℕ) → s < 2 ^ n → ones s ≡ count_by (λ i. bit_at s i == 1) (range_with_len 0 n)
unfolding ones
count_in zero s h = let z : s ≡ 0 = omega arith in rw z refl
count_in (suc n) s h =
    let e0 = ones_step s in
    let e1 = sum_by-cons (λ (i : ℕ). cond (bit_at s i == 1) 1 0) 0 (range_with_len 1 n) in
    let e2 : count_by (λ i. bit_at s i == 1) (range_with_len (0 + 1) n) ≡ count_by (λ i. bit_at (s / 2) i == 1) (range_with_len 0 n)
    = count_moved (λ i. bit_at s i == 1) (λ i. bit_at (s / 2) i == 1) 0 n (λ i. rw (add-one, bit_at-suc s i) refl) in
    let e3 = count_in n (s / 2) (omega (arith, pow-suc 2 n)) in
    let e4 = bit_value s in
    omega (arith, e0, e1, e2, e3, e4)

pub count_word : (s : ℕ) → s < 2 ^ 128 → ones s ≡ count s
unfolding count has places
count_word s h = count_in 128 s h

-- a range each of whose places passes
all_pass : (p : ℕ → Bool) (a n : ℕ) → ((i : ℕ) → p i ≡ true) → list_all p (range_with_len a n) ≡ true
all_pass p a zero each = refl
all_pass p a (suc n) each = rw (each a) (all_pass p (a + 1) n each)

all_places : (p : ℕ → Bool) → ((i : ℕ) → p i ≡ true) → list_all p places ≡ true
unfolding places
all_places p each = all_pass p 0 128 each

-- a place of a range that passes as a whole
pass_in : (p : ℕ → Bool) (n i : ℕ) → list_all p (range_with_len 0 n) ≡ true → i < n → p i ≡ true
pass_in p n i all below =
    elim (cases_Bool (p i)) [
      | inl passes ↦ passes
      | inr fails ↦
          let none : list_all p (range_with_len 0 n) ≡ false = list_all_at p (range_with_len 0 n) i 0 (rw length-range_with_len below) (rw (get_or-range_with_len 0 n i 0 below, zero-add) fails) in
          absurd (both_ways _ none all)
    ]

each_place : (p : ℕ → Bool) (i : ℕ) → list_all p places ≡ true → i < 128 → p i ≡ true
unfolding places
each_place p i all below = pass_in p 128 i all below

-- a bit that the other word has too is kept
kept_bit : (a b i : ℕ) → (not (bit_at a i == 1) || (bit_at b i == 1)) ≡ true → bit_at (bit_and a b) i ≡ bit_at a i
kept_bit a b i h = let e = bit_at_and a b i in let l = bit_at-lt a i in grind (arith, nat_tests, bit_at-lt b i)

-- a word that keeps all its bits has no bit that the other lacks
held_bit : (a b i : ℕ) → bit_and a b ≡ a → (not (bit_at a i == 1) || (bit_at b i == 1)) ≡ true
held_bit a b i same =
    let e = bit_at_and a b i in
    let s : bit_at (bit_and a b) i ≡ bit_at a i = ap (λ n. bit_at n i) same in
    let l = bit_at-lt b i in
    grind (arith, nat_tests)

-- each place of one set is in another where its word keeps all its bits
pub within_word : (a b : ℕ) → a < 2 ^ 128 → within a b ≡ (bit_and a b == a)
unfolding within has
within_word a b small = same_from_decides {P = bit_and a b ≡ a} _ _ (forth, back) (Decides-eqb (bit_and a b) a)
  where
    forth : list_all (λ i. not (has a i) || has b i) places ≡ true → bit_and a b ≡ a
    forth h =
        same_from_bits_below 128 (bit_and a b) a (omega (arith, and_le_l a b)) small
        (λ i below. kept_bit a b i (each_place (λ i. not (has a i) || has b i) i h below))

    back : bit_and a b ≡ a → list_all (λ i. not (has a i) || has b i) places ≡ true
    back same = all_places (λ i. not (has a i) || has b i) (λ i. held_bit a b i same)

-- a number above 0 has a bit
some_one : (n s : ℕ) → 0 < s → s < 2 ^ n → 0 < ones s
some_one zero s some few = absurd (omega arith)
some_one (suc n) s some few =
    elim (cases_lt 0 (s / 2)) [
      | inl more ↦ omega (arith, ones_step s, some_one n (s / 2) more (omega (arith, pow-suc 2 n)))
      | inr last ↦ omega (arith, ones_step s)
    ]

-- a set that is not empty has a place
pub count_positive : (s : ℕ) → 0 < s → s < 2 ^ 128 → 0 < count s
count_positive s some few = rw (← count_word s few) (some_one 128 s some few)

-- a set below 2 ^ k has at most k places
pub count_le : (s k : ℕ) → s < 2 ^ k → k ≤ 128 → count s ≤ k
count_le s k few wide =
    let small : s < 2 ^ 128 = omega (arith, pow_mono {i = k} {j = 128} wide) in
    let e = count_in k s few in
    let l = count_by-le-length (λ i. bit_at s i == 1) (range_with_len 0 k) in
    omega (arith, count_word s small, e, l, length-range_with_len 0 k)

-- the first place of a set below 2 ^ k that is not empty is below k
pub first_lt : (s k : ℕ) → 0 < s → s < 2 ^ k → k ≤ 128 → first s < k
first_lt s k some few wide =
    let small : s < 2 ^ 128 = omega (arith, pow_mono {i = k} {j = 128} wide) in
    let z = bit_at-trailing_zeros w128 s some small in
    let e = first_word w128 s some small (lit≤ tt) in
    elim (cases_lt (first s) k) [
      | inl below ↦ below
      | inr above ↦
          let none : bit_at s (trailing_zeros w128 s) ≡ 0 = bit_at_above s k (trailing_zeros w128 s) few (omega arith) in
          absurd (omega (arith, z.1))
    ]

-- what the words of sets say, for code that keeps them as a `u8` or a `u128`
pub ruleset set_words = (has_word, share_word, within_word, first_byte, first_wide, first_lt, count_word, count_positive, count_le)
