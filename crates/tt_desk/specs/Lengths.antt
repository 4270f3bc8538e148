-- Proof. How many bytes the parts of a line of totals and of a refusal have at most.
use Rattle.std.specs.Prelude.{ℕ, ◌+◌, ◌*◌}
use Rattle.tt_text.specs.Reply.{most_digits}

-- five numbers, and the words of the sums
abbrev pub most_sums_bytes : ℕ
most_sums_bytes = 44 + 5 * most_digits

-- three numbers, and the words of the counts
abbrev pub most_counts_bytes : ℕ
most_counts_bytes = 29 + 3 * most_digits

-- a number, ` moved ` and the line's end
abbrev pub most_moved_bytes : ℕ
most_moved_bytes = 8 + most_digits

-- the line of totals
abbrev pub most_totals_bytes : ℕ
most_totals_bytes = most_sums_bytes + most_counts_bytes + most_moved_bytes

-- what is said of a timetable that isn't ready: `22 not ready`, three numbers and three blanks
abbrev pub most_refusal_bytes : ℕ
most_refusal_bytes = 15 + 3 * most_digits
