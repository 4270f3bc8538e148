-- Proof. That no count is 0.
use Rattle.std.specs.Prelude.{ℕ, ◌≢◌, List, Option, Some}
use Rattle.std.specs.BTreeMap.{is_at}
use Rattle.std.specs.Map.{lookup}
use Rattle.std.specs.FinMap.{FinMap, get}
use Rattle.tt_bits.specs.declared.times.Key.{Key}
use Rattle.tt_cbs.specs.KeyOrder.{key_cmp}

-- what entries have at a key
abbrev pub at_key : List (Key × ℕ) → Key → Option ℕ
at_key es q = lookup (is_at (key_cmp q)) es

-- no entry has the count 0
abbrev pub IsPositive : List (Key × ℕ) → Type 0
IsPositive es = (q : Key) → at_key es q ≢ Some 0

-- no key has the count 0
abbrev pub HasNoZero : FinMap key_cmp ℕ → Type 0
HasNoZero m = (q : Key) → get m q ≢ Some 0
