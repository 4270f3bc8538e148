-- Theorem. Limits that several crates share.
use Rattle.std.specs.Prelude.{ℕ}

-- the most classes that a problem has; it has no more subparts, nor configurations
abbrev pub most_classes : ℕ
most_classes = 20000

-- the most courses
abbrev pub most_courses : ℕ
most_courses = 20000

-- the most distributions
abbrev pub most_rules : ℕ
most_rules = 20000

-- the most students
abbrev pub most_students : ℕ
most_students = 100000

-- the most members that a distribution has
abbrev pub most_members : ℕ
most_members = 2000

-- the greatest id
abbrev pub most_id : ℕ
most_id = 4294967295

-- the greatest limit of a class
abbrev pub most_limit : ℕ
most_limit = 4294967295

-- the most rooms
abbrev pub most_rooms : ℕ
most_rooms = 2500

-- the most closures of a snapshot, lifted ones among them
abbrev pub most_closures : ℕ
most_closures = 10000

-- the greatest slot of a day; no time and no travel takes more slots
abbrev pub most_slot : ℕ
most_slot = 65535

-- the greatest weight of a sum
abbrev pub most_weight : ℕ
most_weight = 100000

-- the greatest penalty of a time, of a room or of a distribution
abbrev pub most_penalty : ℕ
most_penalty = 1000000

-- the most values that a class has
abbrev pub most_values : ℕ
most_values = 1000000
