-- Theorem. Words and numbers.
use Rattle.std.specs.Prelude.{ℕ, List, ◌++◌, decimal}

-- a word, and a number in decimal digits
unfoldable pub field : List ℕ → ℕ → List ℕ
field word n = word ++ decimal n
