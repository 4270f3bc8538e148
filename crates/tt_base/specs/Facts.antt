-- Theorem. Making a value that needs a fact: it is there exactly where the fact holds.
use Rattle.std.specs.Prelude.{ℕ, ◌^◌, ◌<◌, ◌≤◌, Option, Some, None}
use Rattle.std.proofs.Common.{suc, inl, inr}
use Rattle.std.proofs.lemmas.Bool.{cases_lt}

-- what f makes where m is at most n, and otherwise nothing
unfoldable pub where_le : {A : Type 0} (m n : ℕ) → (m ≤ n → Option A) → Option A
where_le m n f = elim (cases_lt n m) [ inl _ ↦ None | inr within ↦ f within ]

-- what f makes where m is below n, and otherwise nothing
abbrev pub where_lt : {A : Type 0} (m n : ℕ) → (m < n → Option A) → Option A
where_lt m n f = where_le (suc m) n f

-- what f makes of a set that is not empty and has no place from the width on, and otherwise nothing
abbrev pub where_set : {A : Type 0} (set width : ℕ) → (0 < set → set < 2 ^ width → A) → Option A
where_set set width f = where_lt 0 set (λ not_empty. where_lt set (2 ^ width) (λ in_range. Some (f not_empty in_range)))
