-- The level of a round.
use Rattle.std.proofs.Common.{◌≡◌, ℕ, ◌+◌, ◌*◌, ◌/◌, ◌%◌, ◌<◌, ◌≤◌, Bool, true, false, refl, sym, ap, ◌∙◌, arith}
use Rattle.std.specs.Prelude.{not, is_none, nat_le, nat_lt, Option, Some, None, if◌then◌else◌}
use Rattle.std.proofs.Math.Nat.{add-mul, div-add-mod, div-mul-le_self, mul-add-div, mul_assoc}
use Rattle.std.proofs.lemmas.Bool.Decides.{nat_tests}
use Rattle.std.proofs.lemmas.Nat.{div_below, mul-le}
use Rattle.tt_score.specs.Below.{below}

-- the product in two parts
parts : (first n i : ℕ) → first * i ≡ n * (first / n * i) + first % n * i
parts first n i = ap (λ m. m * i) (sym (div-add-mod first n)) ∙ spread n (first / n) (first % n) i
  where
    spread : (n q r i : ℕ) → (n * q + r) * i ≡ n * (q * i) + r * i
    spread n q r i = add-mul (n * q) r i ∙ ap (λ m. m + r * i) (mul_assoc n q i)

-- what the level has sunk by
pub sunk-is : (first n i : ℕ) → 0 < n → first / n * i + first % n * i / n ≡ first * i / n
sunk-is first n i some = sym (ap (λ m. m / n) (parts first n i) ∙ mul-add-div some (first / n * i) (first % n * i))

-- the first part is no more than the first total, and so is the whole
pub sunk-first : (first n i : ℕ) → i ≤ n → first / n * i ≤ first
sunk-first first n i below =
    let more : first / n * i ≤ first / n * n = mul-le (first / n) i (first / n) n (omega arith) below in
    omega (arith, more, div-mul-le_self first n)

pub sunk-rest : (first n i : ℕ) → 0 < n → i < n → first % n * i / n ≤ first % n
sunk-rest first n i some below =
    let r = first % n in
    let most : r * i < (r + 1) * n = wide r i n below in
    let least : r * i / n < r + 1 = div_below (r * i) n (r + 1) some most in
    omega (arith, least)
  where
    wide : (r i n : ℕ) → i < n → r * i < (r + 1) * n
    wide r i n below =
        let product : r * i ≤ r * n = mul-le r i r n (omega arith) (omega arith) in
        omega (arith, product, add-mul r 1 n)

-- a total below the next number is at most the level
next-level : (total level : ℕ) → nat_lt total (level + 1) ≡ nat_le total level
next-level total level = by (nat_lt total (level + 1)) (nat_le total level) refl refl
  where
    by : (a b : Bool) → nat_lt total (level + 1) ≡ a → nat_le total level ≡ b → a ≡ b
    by true true p q = refl
    by false false p q = refl
    by true false p q = grind (arith, nat_tests)
    by false true p q = grind (arith, nat_tests)

pub below-level : (total level : ℕ) (o : Option ℕ) → o ≡ below (level + 1) total → is_none o ≡ not (nat_le total level)
below-level total level o is = ap is_none is ∙ by (nat_lt total (level + 1)) refl
  where
    by : (b : Bool) → nat_lt total (level + 1) ≡ b → is_none (if b then Some total else None) ≡ not (nat_le total level)
    by true e = ap not (sym e ∙ next-level total level)
    by false e = ap not (sym e ∙ next-level total level)
