-- Proof. What holds of each number below four.
use Rattle.std.proofs.Common.{ℕ, zero, suc, ◌<◌, arith}

-- what holds of 0, 1, 2 and 3 holds of each number below 4
pub below_four : (P : ℕ → Type 0) → P 0 → P 1 → P 2 → P 3 → (k : ℕ) → k < 4 → P k
below_four P a b c d zero h = a
below_four P a b c d (suc zero) h = b
below_four P a b c d (suc (suc zero)) h = c
below_four P a b c d (suc (suc (suc zero))) h = d
below_four P a b c d (suc (suc (suc (suc k)))) h = absurd (omega arith)
