-- Theorem. The distributions of a generated problem.
use Rattle.std.specs.Prelude.{ℕ, ◌+◌, ◌-◌, ◌*◌, ◌/◌, ◌%◌, ◌==◌, List, [], ◌∷◌, true, if◌then◌else◌, codes}
use Rattle.serde_json.specs.Data.{Data, boolean, string, object, member, no_members}
use Rattle.tt_make.specs.Draws.{Draws, ◌>>=◌, give, draw}
use Rattle.tt_make.specs.Values.{num, list, word_at}

-- the nineteen types of the ITC 2019 format
abbrev pub type_words : List (List ℕ)
type_words =
    codes "SameStart" ∷ codes "SameTime" ∷ codes "DifferentTime" ∷ codes "SameDays" ∷ codes "DifferentDays" ∷
    codes "SameWeeks" ∷ codes "DifferentWeeks" ∷ codes "Overlap" ∷ codes "NotOverlap" ∷ codes "SameRoom" ∷
    codes "DifferentRoom" ∷ codes "SameAttendees" ∷ codes "Precedence" ∷ codes "WorkDay(120)" ∷ codes "MinGap(6)" ∷
    codes "MaxDays(3)" ∷ codes "MaxDayLoad(60)" ∷ codes "MaxBreaks(1,6)" ∷ codes "MaxBlock(48,6)" ∷ []

-- a distribution that must hold
abbrev pub required_data : List ℕ → List Data → Data
required_data type classes =
    object (member (codes "classes") (list classes) (member (codes "required") (boolean true) (member (codes "type") (string type) no_members)))

-- a distribution that should hold
abbrev pub wished_data : List ℕ → ℕ → List Data → Data
wished_data type penalty classes =
    object (member (codes "classes") (list classes) (member (codes "penalty") (num penalty) (member (codes "type") (string type) no_members)))

-- over the four classes of course k: the types in turn, the first one and each fourth after it required
unfoldable pub turn_data : ℕ → ℕ → Data
turn_data k penalty =
    let type = word_at type_words ((k - 1) % 19) in
    let classes = num (4 * k - 3) ∷ num (4 * k - 2) ∷ num (4 * k - 1) ∷ num (4 * k) ∷ [] in
    if (k - 1) % 4 == 0 then required_data type classes else wished_data type penalty classes

-- the same, with the penalty drawn, needed or not
unfoldable pub turn_rule : ℕ → Draws Data
turn_rule k = do
  penalty ← draw 10
  give (turn_data k (1 + penalty))

-- over a class of course k and its child
unfoldable pub attendees_rule : ℕ → Data
attendees_rule k = required_data (codes "SameAttendees") (num (4 * k - 3) ∷ num (4 * k - 1) ∷ [])

-- distribution j, counted from 0: two for each course of four classes
unfoldable pub rule : ℕ → Draws Data
rule j = if j % 2 == 0 then turn_rule (j / 2 + 1) else give (attendees_rule (j / 2 + 1))
