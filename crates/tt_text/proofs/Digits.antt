-- Digits so far, and one more.
use Rattle.std.proofs.Common.{◌≡◌, ℕ, ◌+◌, ◌-◌, ◌*◌, ◌<◌, ◌≤◌, List, [], ◌∷◌, length, get_or, take, true, arith, rules, zero, suc}
use Rattle.std.specs.Char.{is_ascii_digit, digit_value}
use Rattle.std.specs.List.{list_all}
use Rattle.std.specs.Str.Parse.{digits_value}
use Rattle.std.proofs.lemmas.Int.Digits.{digits_value_more}
use Rattle.std.proofs.lemmas.Str.{digit_value_digit}
use Rattle.std.proofs.lemmas.Str.Parse.{IsDigitsTest, IsNumeralModel, numerals_by_value, digits_value_short, digits_value-take-le}
use Rattle.std.specs.Int.{IsInRange}

test : IsDigitsTest (λ ds. list_all is_ascii_digit ds ≡ true)
test = search rules

own : IsNumeralModel (λ ds. list_all is_ascii_digit ds ≡ true) (digits_value 10)
own = numerals_by_value (λ ds. list_all is_ascii_digit ds ≡ true) test

pub is_short : (ds : List ℕ) (i : ℕ) → list_all is_ascii_digit ds ≡ true → length ds ≤ 20 → digits_value 10 (take i ds) < 100000000000000000000
is_short ds i digits short = omega (arith, digits_value-take-le 10 ds i (omega arith), digits_value_short own ds 20 digits short)

pub digit_there : (ds : List ℕ) (i : ℕ) → list_all is_ascii_digit ds ≡ true → i < length ds → IsInRange 48 57 (get_or ds i 0)
digit_there [] i h lt = absurd (omega arith)
digit_there (d ∷ ds) zero h lt = (test.parts d ds h).0
digit_there (d ∷ ds) (suc i) h lt = digit_there ds i (test.parts d ds h).1 (omega arith)

pub one_more : (ds : List ℕ) (i : ℕ) → list_all is_ascii_digit ds ≡ true → i < length ds → digits_value 10 (take (i + 1) ds) ≡ digits_value 10 (take i ds) * 10 + (get_or ds i 0 - 48)
one_more ds i h lt =
    let d : digit_value (get_or ds i 0) + 48 ≡ get_or ds i 0 = digit_value_digit (get_or ds i 0) (digit_there ds i h lt) in
    omega (arith, digits_value_more 10 ds i lt, d)
