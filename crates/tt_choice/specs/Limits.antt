-- Contract. How large the numbers of a choice become.
use Rattle.std.specs.Prelude.{ℕ}

-- the most classes that a student has already taken, those of 40 courses
abbrev pub most_already : ℕ
most_already = 800000

-- the most pairs that a choice adds: each of its classes with each that is taken or chosen
abbrev pub most_added : ℕ
most_added = 16400000000

-- the same with one class more
abbrev pub most_added_with : ℕ
most_added_with = 16400820000

-- the most pairs of a class of a front and one that is still to come
abbrev pub most_across : ℕ
most_across = 400000000
