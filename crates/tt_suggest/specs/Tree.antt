-- Theorem. The tree of placements: a class gets a value, then a class that it pushed out gets one, and so on.
use Rattle.std.specs.Prelude.{ℕ, zero, suc, ◌+◌, nat_le, Bool, not, ◌&&◌, ◌==◌, List, [], ◌∷◌, ◌++◌, Some, None, is_none, length, map, fold}
use Rattle.std.specs.List.{filter, flat_map, list_any, sum_by}
use Rattle.tt_bits.specs.declared.times.Value.{Value}
use Rattle.tt_problem.specs.declared.parts.Parts.{Parts}
use Rattle.tt_plan.specs.Domain.{domain_of}
use Rattle.tt_state.specs.Snapshots.{Snapshot, value_in, with_value}
use Rattle.tt_state.specs.Values.{conflict_set_of, is_value, obstacle_of}
use Rattle.tt_suggest.specs.declared.suggestion.Move.{Move}

-- the most values that are tried
abbrev pub most_tries : ℕ
most_tries = 1000000

-- a node: the snapshot, the placements that led to it, and the classes that wait for a value
pub record Node : Type 0 where
  pub snapshot : Snapshot
  pub path : List Move
  pub waiting : List ℕ

-- the node at the root: nothing is placed yet, and one class waits
abbrev pub root_of : Snapshot → (class : ℕ) → Node
root_of s class = record { snapshot = s; path = []; waiting = class ∷ [] }

-- A class at a value gives a child of a node, where `spare` placements may follow it: nothing stands in its way; at the root it isn't
-- the one that the class has; no more classes wait then than may be placed; and no class is pushed out that was placed on the way.
unfoldable pub gives_child : Parts → (spare : ℕ) → Node → (class : ℕ) → (others : List ℕ) → Value → Bool
gives_child p spare node class others v =
    let conflicts = conflict_set_of p node.snapshot class v in
    is_none (obstacle_of p node.snapshot class v)
    && not (length node.path == 0 && is_value (value_in node.snapshot class) v)
    && nat_le (length others + length conflicts) spare
    && not (list_any (λ other. list_any (λ m. m.class == other) node.path) conflicts)

-- the child of a node by a class at a value: the classes that it pushes out lose theirs, and wait after the others
abbrev pub child_by : Parts → Node → (class : ℕ) → (others : List ℕ) → Value → Node
child_by p node class others v =
    let conflicts = conflict_set_of p node.snapshot class v in
    record {
      snapshot = with_value (fold (λ s other. with_value s other None) node.snapshot conflicts) class (Some v);
      path = node.path ++ record { class = class; value = v } ∷ [];
      waiting = others ++ conflicts;
    }

-- the children of a node by each value of a class, in the order of its domain
abbrev pub children_of : Parts → (spare : ℕ) → Node → (class : ℕ) → (others : List ℕ) → List Node
children_of p spare node class others =
    map (child_by p node class others) (filter (gives_child p spare node class others) (domain_of p class))

-- what there is for no class, or else for the first class and the others
abbrev pub at_first : {A : Type 0} → List ℕ → A → (ℕ → List ℕ → A) → A
at_first [] none some = none
at_first (class ∷ others) none some = some class others

-- The nodes without a waiting class, in the order of a depth-first walk, where so many placements are left. No child has more
-- waiting classes than placements left, so with none left no class waits.
unfoldable pub leaves_of : Parts → (left : ℕ) → Node → List Node
leaves_of p zero node = at_first node.waiting (node ∷ []) (λ class others. [])
leaves_of p (suc spare) node = at_first node.waiting (node ∷ []) (λ class others. flat_map (leaves_of p spare) (children_of p spare node class others))

-- how many values are tried: at each node each value of its first waiting class
unfoldable pub tries_of : Parts → (left : ℕ) → Node → ℕ
tries_of p zero node = 0
tries_of p (suc spare) node = at_first node.waiting 0 (λ class others. length (domain_of p class) + sum_by (tries_of p spare) (children_of p spare node class others))
