-- Theorem. Sets of days or weeks, as numbers: place i is in the set where bit i is 1.
use Rattle.std.specs.Prelude.{ℕ, ◌+◌, ◌*◌, Bool, not, ◌&&◌, ◌||◌, ◌==◌, List, [], ◌∷◌, length, count_by, Option, Some, None, if◌then◌else◌}
use Rattle.std.specs.Int.{bit_at}
use Rattle.std.specs.List.{list_any, list_all, range_with_len, position_or_len}

-- the places that a set can have
unfoldable pub places : List ℕ
places = range_with_len 0 128

-- place i is in the set
unfoldable pub has : ℕ → ℕ → Bool
has s i = bit_at s i == 1

-- some place is in both
unfoldable pub share : ℕ → ℕ → Bool
share a b = list_any (λ i. has a i && has b i) places

-- each place of the first is in the second
unfoldable pub within : ℕ → ℕ → Bool
within a b = list_all (λ i. not (has a i) || has b i) places

-- how many places are in the set
unfoldable pub count : ℕ → ℕ
count s = count_by (has s) places

-- the first place that is in the set
unfoldable pub first : ℕ → ℕ
first s = position_or_len (has s) places

-- the number whose bits the characters give, the first the lowest
abbrev pub number_of : List ℕ → ℕ
number_of [] = 0
number_of (c ∷ cs) = (if c == 49 then 1 else 0) + 2 * number_of cs

-- n characters, each 0 or 1, and some of them 1
abbrev pub is_set_text : List ℕ → ℕ → Bool
is_set_text text n = (length text == n) && list_all (λ c. (c == 48) || (c == 49)) text && list_any (λ c. c == 49) text

-- the set that a text of n characters writes
abbrev pub read_set : List ℕ → ℕ → Option ℕ
read_set text n = if is_set_text text n then Some (number_of text) else None
