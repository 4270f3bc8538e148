-- Theorem. Counts by key. A key without a count has 0.
use Rattle.std.specs.Prelude.{ℕ, ◌+◌, ◌-◌, ◌==◌, if◌then◌else◌, unwrap_or}
use Rattle.std.specs.FinMap.{FinMap, get, insert, remove}
use Rattle.tt_bits.specs.declared.times.Key.{Key}
use Rattle.tt_cbs.specs.KeyOrder.{key_cmp}

-- the count at a key
abbrev pub count_at : FinMap key_cmp ℕ → Key → ℕ
count_at m key = unwrap_or (get m key) 0

-- one more at a key
abbrev pub bumped : FinMap key_cmp ℕ → Key → FinMap key_cmp ℕ
bumped m key = insert m key (count_at m key + 1)

-- one less at a key, which is taken out where none is left
abbrev pub dropped : FinMap key_cmp ℕ → Key → FinMap key_cmp ℕ
dropped m key = if count_at m key == 1 then remove m key else insert m key (count_at m key - 1)
