-- Contract. How a configuration is judged in the table by which it is searched.
use Rattle.std.specs.Prelude.{◌≡◌, ℕ, ◌-◌, ◌*◌, ◌<◌, ◌≤◌, Bool, true, false, ◌||◌, List, Option, Some, None, length, count_by, nat_eq, min, max, if◌then◌else◌}
use Rattle.std.specs.List.{list_all}
use Rattle.std.specs.Option.{option_map_or}
use Rattle.tt_base.specs.Lists.{comes_before, is_listed}
use Rattle.tt_problem.specs.declared.parts.Span.{Span}
use Rattle.tt_least.specs.declared.table.Table.{Table}
use Rattle.tt_least.specs.Choices.{AreApart, IsChoice}
use Rattle.tt_least.specs.Judged.{IsIn, conflict_in, is_flagged, parent_in, weight_in}
use Rattle.tt_least.specs.Searches.{HasRoomToSearch}
use Rattle.tt_choice.specs.declared.searched.SearchRoom.{SearchRoom}
use Rattle.tt_choice.specs.Least.{Situation, is_allowed, pairs_added}

-- how many classes already taken a class conflicts with
abbrev pub already_pairs : Situation → ℕ → ℕ
already_pairs s c = count_by (s.conflicts c) s.already

-- the parent of a class, if it has one that isn't already taken
abbrev pub parent_needed : Situation → ℕ → Option ℕ
parent_needed s c = option_map_or (λ p. if is_listed p s.already then None else Some p) (s.parent_of c) None

-- the classes are the same, or they conflict, the lower one asked
abbrev pub either_conflicts : Situation → ℕ → ℕ → Bool
either_conflicts s c d = nat_eq c d || s.conflicts (min c d) (max c d)

-- the class has no parent, or one that is already taken
abbrev pub has_parent_already : Situation → ℕ → Bool
has_parent_already s c = option_map_or (λ p. is_listed p s.already) (s.parent_of c) true

-- no class whose parent may be missing lacks it
abbrev pub lacks_none : Situation → Bool
lacks_none s = list_all (has_parent_already s) s.wanting

-- the table says of its classes what the situation says of them
pub record IsFilled (s : Situation) (t : Table) : Type 0 where
  pub weights : (c : ℕ) → IsIn t c → weight_in t c ≡ already_pairs s c
  pub parents : (c : ℕ) → IsIn t c → parent_in t c ≡ parent_needed s c
  pub conflicts : (c d : ℕ) → IsIn t c → IsIn t d → conflict_in t c d ≡ either_conflicts s c d

-- the flags are those of the classes that have a seat
pub record AreSeated (s : Situation) (t : Table) (left : List Bool) : Type 0 where
  pub each : (c : ℕ) → IsIn t c → is_flagged t left c ≡ s.has_seat c

-- each allowed choice of the subparts adds more pairs
pub record NoneAdds (s : Situation) (subparts : List Span) (most : ℕ) : Type 0 where
  pub each : (choice : List ℕ) → IsChoice subparts choice → is_allowed s choice ≡ true → most < pairs_added s choice

-- of the allowed choices of the subparts that add the fewest pairs the first
pub record IsFirstFewest (s : Situation) (subparts : List Span) (choice : List ℕ) : Type 0 where
  pub one_of_each : IsChoice subparts choice
  pub allowed : is_allowed s choice ≡ true
  pub fewest : (other : List ℕ) → IsChoice subparts other → is_allowed s other ≡ true → pairs_added s choice ≤ pairs_added s other
  pub first : (other : List ℕ) → IsChoice subparts other → is_allowed s other ≡ true → pairs_added s other ≤ pairs_added s choice → comes_before other choice ≡ false

-- the subparts follow one another
pub record AreInTurn (subparts : List Span) : Type 0 where
  pub first : ℕ
  pub after : ℕ
  pub apart : AreApart first subparts after

-- there is room for a search of so many subparts and of these classes
pub record HasPlaceFor (parts : ℕ) (classes : Span) (room : SearchRoom) : Type 0 where
  pub deep : parts < length room.search.levels.items
  pub few : parts ≤ length room.weights.items
  pub within : classes.after - classes.first ≤ length room.weights.items

-- there is room for a search, and for what it searches
pub record HasRoomToFill (room : SearchRoom) : Type 0 where
  pub parents : length room.parents.items ≡ length room.weights.items
  pub conflicts : length room.conflicts.items ≡ length room.weights.items * length room.weights.items
  pub search : HasRoomToSearch (length room.weights.items) 0 room.search
