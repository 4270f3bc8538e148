-- What a value that needs a fact is, where the fact holds and where it doesn't.
use Rattle.std.proofs.Common.{◌≡◌, ◌∙◌, ℕ, ◌^◌, ◌<◌, ◌≤◌, Option, Some, None, ap, refl, inl, inr, arith, ◌⊎◌, suc}
use Rattle.std.proofs.Math.Bridge.{le_prop}
use Rattle.std.proofs.lemmas.Bool.{cases_lt}
use Rattle.tt_base.specs.Facts.{where_lt, where_le, where_set}

pub where_le-holds : {A : Type 0} (m n : ℕ) (f : m ≤ n → Option A) (is : m ≤ n) → where_le m n f ≡ f is
unfolding where_le
where_le-holds m n f is =
    elim (cases_lt n m) as (λ (t : (n < m) ⊎ (m ≤ n)). elim t [ inl _ ↦ None | inr within ↦ f within ] ≡ f is) [
      | inl above ↦ absurd (omega arith)
      | inr within ↦ ap f (le_prop within is)
    ]

pub where_le-fails : {A : Type 0} (m n : ℕ) (f : m ≤ n → Option A) → n < m → where_le m n f ≡ None
unfolding where_le
where_le-fails m n f above =
    elim (cases_lt n m) as (λ (t : (n < m) ⊎ (m ≤ n)). elim t [ inl _ ↦ None | inr within ↦ f within ] ≡ None) [
      | inl _ ↦ refl
      | inr within ↦ absurd (omega arith)
    ]

pub where_lt-holds : {A : Type 0} (m n : ℕ) (f : m < n → Option A) (is : m < n) → where_lt m n f ≡ f is
where_lt-holds m n f is = where_le-holds (suc m) n f is

pub where_lt-fails : {A : Type 0} (m n : ℕ) (f : m < n → Option A) → n ≤ m → where_lt m n f ≡ None
where_lt-fails m n f above = where_le-fails (suc m) n f (omega arith)

pub where_set-holds : {A : Type 0} (set width : ℕ) (f : 0 < set → set < 2 ^ width → A) (some : 0 < set) (few : set < 2 ^ width) → where_set set width f ≡ Some (f some few)
where_set-holds set width f some few = where_lt-holds 0 set _ some ∙ where_lt-holds set (2 ^ width) _ few

pub where_set-fails : {A : Type 0} (set width : ℕ) (f : 0 < set → set < 2 ^ width → A) → (0 < set → 2 ^ width ≤ set) → where_set set width f ≡ None
where_set-fails set width f past =
    elim (cases_lt 0 set) [
      | inl some ↦ where_lt-holds 0 set _ some ∙ where_lt-fails set (2 ^ width) _ (past some)
      | inr empty ↦ where_lt-fails 0 set _ empty
    ]
