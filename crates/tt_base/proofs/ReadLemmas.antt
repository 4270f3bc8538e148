-- The number that a text of a set writes.
use Rattle.std.proofs.Common.{◌≡◌, ◌∙◌, refl, sym, ap, subst, arith, pow-suc, ℕ, ◌+◌, ◌*◌, ◌/◌, ◌<◌, ◌≤◌, ◌^◌, zero, suc, true, cond, List, [], ◌∷◌, length, get_or, drop, inl, inr}
use Rattle.std.specs.Prelude.{◌==◌, nat_lt}
use Rattle.std.specs.Prelude.{Option, Some, option_and_then}
use Rattle.std.specs.Option.{option_map}
use Rattle.std.specs.List.{list_any}
use Rattle.std.proofs.Math.Pow.{pow_mono}
use Rattle.std.proofs.lemmas.Bool.{cases_Bool, and_parts, ltb-true, eqb-true}
use Rattle.std.proofs.lemmas.Bool.Decides.{nat_tests}
use Rattle.std.proofs.lemmas.List.{drop_more, length-drop}
use Rattle.std.specs.Int.{bit_at}
use Rattle.std.proofs.lemmas.Nat.Bits.{bit_at-zero, bit_at_lowest, bit_at-suc}
use Rattle.tt_base.specs.Sets.{has, number_of, is_set_text, read_set}

pub number_of_lt : (xs : List ℕ) → number_of xs < 2 ^ length xs
number_of_lt [] = omega arith
number_of_lt (x ∷ xs) = elim (cases_Bool (x == 49)) [
  | inl t ↦ rw t (omega (arith, number_of_lt xs, pow-suc 2 (length xs)))
  | inr f ↦ rw f (omega (arith, number_of_lt xs, pow-suc 2 (length xs)))
]

-- a place is in the number exactly where its character is 1
pub has_number_of : (text : List ℕ) (place : ℕ) → has (number_of text) place ≡ (get_or text place 0 == 49)
unfolding has
has_number_of [] place = rw (bit_at-zero place) refl
has_number_of (c ∷ cs) zero = elim (cases_Bool (c == 49)) [
  | inl t ↦ let low : bit_at (1 + 2 * number_of cs) 0 ≡ 1 = omega (arith, bit_at_lowest (1 + 2 * number_of cs)) in rw (t, low) refl
  | inr f ↦ let low : bit_at (0 + 2 * number_of cs) 0 ≡ 0 = omega (arith, bit_at_lowest (0 + 2 * number_of cs)) in rw (f, low) refl
]
has_number_of (c ∷ cs) (suc place) = elim (cases_Bool (c == 49)) [
  | inl t ↦ let half : (1 + 2 * number_of cs) / 2 ≡ number_of cs = omega arith in rw (t, bit_at-suc, half) (has_number_of cs place)
  | inr f ↦ let half : (0 + 2 * number_of cs) / 2 ≡ number_of cs = omega arith in rw (f, bit_at-suc, half) (has_number_of cs place)
]

-- a 1 stands in the text where the number is not 0
pub any_one : (xs : List ℕ) → list_any (λ c. c == 49) xs ≡ nat_lt 0 (number_of xs)
any_one [] = refl
any_one (x ∷ xs) = elim (cases_Bool (x == 49)) [
  | inl t ↦ rw t (one_more (number_of xs))
  | inr f ↦ rw f (any_one xs ∙ twice (number_of xs))
]
  where
    one_more : (n : ℕ) → true ≡ nat_lt 0 (1 + 2 * n)
    one_more n = grind (arith, nat_tests)

    twice : (n : ℕ) → nat_lt 0 n ≡ nat_lt 0 (0 + 2 * n)
    twice n = grind (arith, nat_tests)

-- what is left from a place on
pub number_of_drop : (xs : List ℕ) (j i : ℕ) → i ≡ j + 1 → j < length xs → number_of (drop j xs) ≡ cond (get_or xs j 0 == 49) 1 0 + 2 * number_of (drop i xs)
number_of_drop xs j i e h = ap number_of (drop_more xs j 0 h) ∙ ap (λ (k : ℕ). cond (get_or xs j 0 == 49) 1 0 + 2 * number_of (drop k xs)) (sym e)

-- what is left past some character leaves room for a bit below
pub number_of_room : (xs : List ℕ) (i : ℕ) → 0 < i → i ≤ length xs → length xs ≤ 128 → number_of (drop i xs) < 2 ^ 127
number_of_room xs i some within short =
    let l = length-drop i xs in
    let b = number_of_lt (drop i xs) in
    let m = pow_mono {i = length (drop i xs)} {j = 127} (omega (arith, l)) in
    omega (arith, b, m)

-- the number that a set's text writes is above 0 and has no bit past the text
pub number_of_set : (text : List ℕ) (n : ℕ) → is_set_text text n ≡ true → (0 < number_of text) × (number_of text < 2 ^ n)
number_of_set text n h =
    let ones = and_parts _ _ h in
    let long = and_parts _ _ ones.0 in
    let some : nat_lt 0 (number_of text) ≡ true = sym (any_one text) ∙ ones.1 in
    (ltb-true 0 (number_of text) some, subst (λ k. number_of text < 2 ^ k) (eqb-true _ _ long.0) (number_of_lt text))

-- what is made of the set that a text writes keeps that set, where the text is no longer than the width
pub set_of_text : {A : Type 0} (width : ℕ) (make : (set : ℕ) → Option A) (set_of : A → ℕ) → ((set : ℕ) → 0 < set → set < 2 ^ width → option_map set_of (make set) ≡ Some set)
    → (text : List ℕ) (n : ℕ) → n ≤ width → option_map set_of (option_and_then make (read_set text n)) ≡ read_set text n
set_of_text width make set_of made text n short =
    elim (cases_Bool (is_set_text text n)) [
      | inl set ↦
          let number = number_of_set text n set in
          rw set (made (number_of text) number.0 (omega (arith, number.1, pow_mono {i = n} {j = width} short)))
      | inr other ↦ rw other refl
    ]
