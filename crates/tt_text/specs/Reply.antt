-- Contract. What is appended to a reply without asking for memory.
use Rattle.std.specs.Prelude.{ℕ}

-- for how many bytes a reply has memory from the start
abbrev pub kept_bytes : ℕ
kept_bytes = 1024

-- how many digits a number has at most that is appended
abbrev pub most_digits : ℕ
most_digits = 39
