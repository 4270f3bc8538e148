-- Contract. How large a search may become.
use Rattle.std.specs.Prelude.{ℕ, ◌^◌}

-- the most classes of a configuration that is searched
abbrev pub most_searched : ℕ
most_searched = 512

-- above each number of pairs that a search may be limited to
abbrev pub most_pairs : ℕ
most_pairs = 2 ^ 40

-- the highest price of a group
abbrev pub most_price : ℕ
most_price = 65535
