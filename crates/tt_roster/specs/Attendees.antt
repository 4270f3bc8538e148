-- Contract. The students of a class in no order. A clause cites `AreStudentsOf`; proofs alone need the nodes at which they stand.
use Rattle.std.specs.Prelude.{◌≡◌, ℕ, ◌==◌, true, cond, List, count_by, slice_index}
use Rattle.std.specs.List.{position_or_len}
use Rattle.tt_base.specs.Lists.{is_listed}
use Rattle.tt_roster.specs.Listed.{ListedClasses, node_of}
use Rattle.tt_roster.specs.Lists.{list_of}
use Rattle.tt_roster.specs.Seen.{row_at}

-- each student who has the class stands once in the list, and no other
abbrev pub AreStudentsOf : (students : List ℕ) (lists : List (List ℕ)) (class : ℕ) → Type 0
AreStudentsOf students lists class = (student : ℕ) → count_by (λ x. x == student) students ≡ cond (is_listed class (list_of lists student)) 1 0

-- each student who has the class stands at the node that the student's row has beside it
abbrev pub AreNodesOf : (nodes students : List ℕ) (rows : List ListedClasses) (class : ℕ) → Type 0
AreNodesOf nodes students rows class = (student : ℕ) → is_listed class (row_at rows student).classes ≡ true
    → slice_index nodes (position_or_len (λ x. x == student) students) ≡ node_of (row_at rows student) class
