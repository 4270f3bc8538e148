-- Contract. What is left of each subpart at a node of the search, and what its choices cost.
use Rattle.std.specs.Prelude.{◌≡◌, ◌≢◌, ℕ, ◌+◌, ◌-◌, ◌<◌, ◌≤◌, Bool, true, false, cond, ◌&&◌, List, None, Some, length, slice_get, slice_set, slice_index_or, sum_by, count_by, take, IfSome}
use Rattle.std.specs.List.{list_all}
use Rattle.std.specs.Option.{is_none}
use Rattle.tt_base.specs.Among.{pairs_among}
use Rattle.tt_problem.specs.declared.parts.Span.{Span}
use Rattle.tt_least.specs.declared.table.Table.{Table}
use Rattle.tt_least.specs.declared.level.Level.{Level}
use Rattle.tt_least.specs.Choices.{IsChoice}
use Rattle.tt_problem.specs.Spans.{is_in}
use Rattle.tt_least.specs.Judged.{IsIn, conflict_in, is_flagged, pairs_in}

-- a choice of classes that are left
pub record IsLeft (t : Table) (left : List Bool) (choice : List ℕ) : Type 0 where
  pub one_of_each : IsChoice t.subparts.now choice
  pub are_left : list_all (is_flagged t left) choice ≡ true

-- a choice of classes that are left, with the class of each subpart whose class is chosen
pub record IsOf (t : Table) (l : Level) (choice : List ℕ) : Type 0 where
  pub is_left : IsLeft t l.left.items choice
  pub chosen : (k : ℕ) → k < length t.subparts.now → IfSome (slice_index_or l.chosen.items k None) (λ c. slice_index_or choice k 0 ≡ c)

-- two classes of subparts whose class is still to come conflict
abbrev pub pair_to_come : Table → Level → ℕ → ℕ → Bool
pair_to_come t l c d = conflict_in t c d && (is_flagged t l.to_come.items c && is_flagged t l.to_come.items d)

-- what a class costs, its conflicts with the classes that are chosen among it
abbrev pub weight_at : Table → Level → ℕ → ℕ
weight_at t l c = slice_index_or l.weights.items (c - t.first) 0

-- there is a place for each class and each subpart in each of the level's lists
pub record HasPlaces (size : ℕ) (l : Level) : Type 0 where
  pub left : length l.left.items ≡ size
  pub to_come : length l.to_come.items ≡ size
  pub weights : length l.weights.items ≡ size
  pub chosen : length l.chosen.items ≡ size

-- a class that is chosen is of its subpart, the classes of a subpart none of whose classes is chosen are still to come; and
-- the pairs that are counted, what the classes of a choice cost, and its pairs still to come, are no more than what it costs
pub record IsNode (t : Table) (l : Level) : Type 0 where
  pub chosen : (k c : ℕ) → slice_index_or l.chosen.items k None ≡ Some c → IfSome (slice_get t.subparts.now k) (λ s. (s.first ≤ c) × (c < s.after))
  pub to_come : (k c : ℕ) → slice_index_or l.chosen.items k None ≡ None → IfSome (slice_get t.subparts.now k) (λ s. s.first ≤ c → c < s.after → is_flagged t l.to_come.items c ≡ true)
  pub counted : (choice : List ℕ) → IsOf t l choice → l.pairs + sum_by (weight_at t l) choice + pairs_among (pair_to_come t l) choice ≤ pairs_in t choice

-- how many subparts have their class still to come
abbrev pub count_to_come : Table → Level → ℕ
count_to_come t l = count_by is_none (take (length t.subparts.now) l.chosen.items)

-- the node that comes from another one where a class of a subpart is chosen: no class but the chosen one is left of the
-- subpart, and those still to come cost their conflict with it as well
pub record IsChild (t : Table) (l : Level) (k : ℕ) (s : Span) (c : ℕ) (child : Level) : Type 0 where
  pub one : is_flagged t child.left.items c ≡ true
  pub others : (d : ℕ) → IsIn t d → d ≢ c → is_in d s ≡ true → is_flagged t child.left.items d ≡ false
  pub rest : (d : ℕ) → IsIn t d → is_in d s ≡ false → is_flagged t child.left.items d ≡ is_flagged t l.left.items d
  pub gone : (d : ℕ) → IsIn t d → is_in d s ≡ true → is_flagged t child.to_come.items d ≡ false
  pub to_come : (d : ℕ) → IsIn t d → is_in d s ≡ false → is_flagged t child.to_come.items d ≡ is_flagged t l.to_come.items d
  pub weights : (d : ℕ) → IsIn t d → weight_at t child d ≤ cond (is_flagged t child.to_come.items d) (weight_at t l d + cond (conflict_in t c d) 1 0) 0
  pub chosen : child.chosen.items ≡ slice_set l.chosen.items k (Some c)
  pub pairs : child.pairs ≤ l.pairs + weight_at t l c
