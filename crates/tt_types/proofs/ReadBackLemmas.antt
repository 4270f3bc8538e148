-- A name with its parameters is read back.
use Rattle.std.proofs.Common.{◌≡◌, ◌∙◌, ℕ, ◌+◌, ◌/◌, ◌%◌, ◌<◌, ◌≤◌, suc, Bool, true, false, List, [], ◌∷◌, ◌++◌, Option, Some, None, length, take, drop, reverse, refl, ap, arith, rules, inl, inr, append-nil}
use Rattle.std.specs.Prelude.{◌==◌, option_map, decimal, if◌then◌else◌}
use Rattle.std.specs.Char.{is_ascii_digit}
use Rattle.std.specs.List.{list_any, list_all, position_or_len}
use Rattle.std.specs.Str.Parse.{digits_value}
use Rattle.std.specs.Int.{IsInRange}
use Rattle.std.proofs.lemmas.Bool.{eq-eqb, ne_eqb, le-leb, lt-ltb, or_parts, cases_lt}
use Rattle.std.proofs.lemmas.Fmt.{decimal_digit, decimal_step, decimal_nonempty, length-decimal-le, digits_decimal, digits_value-decimal}
use Rattle.std.proofs.lemmas.List.{reverse-append, reverse-reverse}
use Rattle.std.proofs.lemmas.List.Folds.{list_any-append}
use Rattle.std.proofs.lemmas.Str.Parse.{IsDigitsTest, IsNumeralModel, numerals_by_value}
use Rattle.tt_problem.specs.declared.kinds.Parameters.{Parameters}
use Rattle.tt_problem.specs.declared.kinds.Parameters.TheVariants.{Plain, One, Two}
use Rattle.tt_problem.specs.declared.parts.DistKind.{DistKind}
use Rattle.tt_problem.specs.Kinds.{naming_of, named}
use Rattle.tt_problem.proofs.KindLemmas.{each_named}
use Rattle.tt_text.specs.Fields.{field}
use Rattle.tt_types.specs.Laws.{AreShort}
use Rattle.tt_types.specs.Text.{cut, unspaced, trimmed, parameter_of}
use Rattle.tt_types.specs.Types.{with_inside, type_of, type_in}
use Rattle.tt_types.specs.TypeTexts.{parameters_text, type_text}

-- a text without the character isn't cut
cut-none : (mark : ℕ) (text : List ℕ) → list_any (λ c. c == mark) text ≡ false → cut mark text ≡ None
cut-none mark text none = rw none refl

abbrev with_first : ℕ → List ℕ × List ℕ → List ℕ × List ℕ
with_first c parts = (c ∷ parts.0, parts.1)

abbrev parts_if : Bool → List ℕ → List ℕ → Option (List ℕ × List ℕ)
parts_if b front back = if b then Some (front, back) else None

first-more : (c : ℕ) (b : Bool) (front back : List ℕ) → parts_if b (c ∷ front) back ≡ option_map (with_first c) (parts_if b front back)
first-more c true front back = refl
first-more c false front back = refl

cut-more : (mark c : ℕ) (text : List ℕ) → (c == mark) ≡ false → cut mark (c ∷ text) ≡ option_map (with_first c) (cut mark text)
cut-more mark c text other =
    let k = position_or_len (λ d. d == mark) text in
    let one : 1 + k ≡ suc k = omega arith in
    let two : suc k + 1 ≡ suc (k + 1) = omega arith in
    rw (other, one, two) (first-more c (list_any (λ d. d == mark) text) (take k text) (drop (k + 1) text))

-- a text is cut at the first such character
cut-at : (mark : ℕ) (front back : List ℕ) → list_any (λ c. c == mark) front ≡ false → cut mark (front ++ (mark ∷ back)) ≡ Some (front, back)
cut-at mark [] back none = let here : (mark == mark) ≡ true = eq-eqb mark mark refl in rw here refl
cut-at mark (c ∷ front) back none =
    let parts = or_parts (c == mark) (list_any (λ d. d == mark) front) none in
    cut-more mark c (front ++ (mark ∷ back)) parts.0 ∙ ap (option_map (with_first c)) (cut-at mark front back parts.1)

-- decimal digits
test : IsDigitsTest (λ ds. list_all is_ascii_digit ds ≡ true)
test = search rules

own : IsNumeralModel (λ ds. list_all is_ascii_digit ds ≡ true) (digits_value 10)
own = numerals_by_value (λ ds. list_all is_ascii_digit ds ≡ true) test

digit_other : (c mark : ℕ) → IsInRange 48 57 c → mark < 48 → (c == mark) ≡ false
digit_other c mark range low = ne_eqb c mark (λ same. omega (arith, range.0, same))

none_among : (mark : ℕ) (ds : List ℕ) → mark < 48 → list_all is_ascii_digit ds ≡ true → list_any (λ c. c == mark) ds ≡ false
none_among mark [] low digits = refl
none_among mark (d ∷ ds) low digits =
    let parts = test.parts d ds digits in
    let here = digit_other d mark parts.0 low in
    rw here (none_among mark ds low parts.1)

none_in_decimal : (mark n : ℕ) → mark < 48 → n ≤ 65535 → list_any (λ c. c == mark) (decimal n) ≡ false
none_in_decimal mark n low few = none_among mark (decimal n) low (digits_decimal own n (omega arith))

-- no space stands before or after them
unspaced-front : (ds : List ℕ) → list_all is_ascii_digit ds ≡ true → unspaced ds ≡ ds
unspaced-front [] digits = refl
unspaced-front (d ∷ ds) digits = let here = digit_other d 32 (test.parts d ds digits).0 (omega arith) in rw here refl

unspaced-last : (front : List ℕ) (n : ℕ) → unspaced (reverse (front ++ ((48 + n) ∷ []))) ≡ reverse (front ++ ((48 + n) ∷ []))
unspaced-last front n =
    let here : ((48 + n) == 32) ≡ false = ne_eqb (48 + n) 32 (λ same. omega (arith, same)) in
    rw (reverse-append front ((48 + n) ∷ []), here) refl

unspaced-back : (n : ℕ) → n ≤ 65535 → unspaced (reverse (decimal n)) ≡ reverse (decimal n)
unspaced-back n few =
    elim (cases_lt n 10) [
      | inl one ↦ rw (decimal_digit n one) (unspaced-last [] n)
      | inr more ↦ rw (decimal_step n more (omega arith)) (unspaced-last (decimal (n / 10)) (n % 10))
    ]

trimmed-decimal : (n : ℕ) → n ≤ 65535 → trimmed (decimal n) ≡ decimal n
trimmed-decimal n few =
    ap (λ l. reverse (unspaced (reverse l))) (unspaced-front (decimal n) (digits_decimal own n (omega arith))) ∙ ap reverse (unspaced-back n few) ∙ reverse-reverse (decimal n)

-- a number that is written is a parameter
parameter-decimal : (n : ℕ) → n ≤ 65535 → parameter_of (decimal n) ≡ Some n
unfolding parameter_of
parameter-decimal n few =
    let short : length (decimal n) ≤ 5 = length-decimal-le 5 n (omega arith) (omega arith) (omega arith) in
    let some = lt-ltb 0 (length (decimal n)) (decimal_nonempty n (omega arith)) in
    let five = le-leb (length (decimal n)) 5 short in
    let twenty = le-leb (length (decimal n)) 20 (omega (arith, short)) in
    let digits = digits_decimal own n (omega arith) in
    let value : digits_value 10 (decimal n) ≡ n = digits_value-decimal own n (omega arith) in
    let most = le-leb n 65535 few in
    rw (trimmed-decimal n few, five, some, twenty, digits, value, most) refl

-- what stands in parentheses is read back
one-read : (kind : DistKind) (name : List ℕ) (n : ℕ) → n ≤ 65535 → named name (One n) ≡ Some kind → with_inside name (cut 41 (decimal n ++ (41 ∷ []))) ≡ Some kind
unfolding with_inside
one-read kind name n few is =
    let closing = cut-at 41 (decimal n) [] (none_in_decimal 41 n (omega arith) few) in
    let comma = cut-none 44 (decimal n) (none_in_decimal 44 n (omega arith) few) in
    rw (closing, comma, parameter-decimal n few) is

two-read : (kind : DistKind) (name : List ℕ) (m n : ℕ) → m ≤ 65535 → n ≤ 65535 → named name (Two m n) ≡ Some kind
    → with_inside name (cut 41 ((decimal m ++ (44 ∷ decimal n)) ++ (41 ∷ []))) ≡ Some kind
unfolding with_inside
two-read kind name m n few_m few_n is =
    let inside = decimal m ++ (44 ∷ decimal n) in
    let none : list_any (λ c. c == 41) inside ≡ false =
    list_any-append (λ c. c == 41) (decimal m) (44 ∷ decimal n) ∙ rw (none_in_decimal 41 m (omega arith) few_m, none_in_decimal 41 n (omega arith) few_n) refl in
    let closing = cut-at 41 inside [] none in
    let comma = cut-at 44 (decimal m) (decimal n) (none_in_decimal 44 m (omega arith) few_m) in
    rw (closing, comma, parameter-decimal m few_m, parameter-decimal n few_n) is

-- a name with its parameters is read back
pub parameters-read : (kind : DistKind) (name : List ℕ) (parameters : Parameters) → list_any (λ c. c == 40) name ≡ false → named name parameters ≡ Some kind → AreShort parameters
    → type_of (name ++ parameters_text parameters) ≡ Some kind
unfolding type_of parameters_text field
parameters-read kind name Plain plain is short = rw (append-nil name, cut-none 40 name plain) is
parameters-read kind name (One n) plain is short =
    rw (cut-at 40 name (decimal n ++ (41 ∷ [])) plain) (one-read kind name n short is)
parameters-read kind name (Two m n) plain is short =
    rw (cut-at 40 name ((decimal m ++ (44 ∷ decimal n)) ++ (41 ∷ [])) plain) (two-read kind name m n short.0 short.1 is)
