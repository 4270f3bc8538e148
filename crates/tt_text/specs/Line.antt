-- Theorem. The words of a line, parted by spaces and tabs.
use Rattle.std.specs.Prelude.{ℕ, List, length, Bool, ◌||◌, ◌==◌, nat_lt}
use Rattle.std.specs.List.{filter, slice_split}

-- a space or a tab
abbrev pub is_blank : ℕ → Bool
is_blank c = c == 32 || c == 9

-- the words of the line, in order: the parts between blanks that have a byte
abbrev pub words_of : List ℕ → List (List ℕ)
words_of line = filter (λ word. nat_lt 0 (length word)) (slice_split is_blank line)
