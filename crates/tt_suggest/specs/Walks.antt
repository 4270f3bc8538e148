-- Proof. Where the walk is, and what it has found.
use Rattle.std.specs.Prelude.{ℕ, ◌≡◌, ◌+◌, ◌<◌, ◌≤◌, nat_le, Bool, not, ◌&&◌, ◌==◌, ◌∷◌, ◌++◌, [], All, List, None, Option, fold, length, map, suc}
use Rattle.std.specs.List.{filter, flat_map, list_any, sum_by}
use Rattle.tt_base.specs.Lists.{least_after}
use Rattle.tt_bits.specs.declared.times.Value.{Value}
use Rattle.tt_problem.specs.declared.parts.Parts.{Parts}
use Rattle.tt_published.specs.Published.{moved_in}
use Rattle.tt_published.specs.Timetable.{Timetable}
use Rattle.tt_state.specs.History.{Contents, IsWithinStep, trail, with_taken}
use Rattle.tt_state.specs.Snapshots.{Snapshot, value_in, with_value}
use Rattle.tt_state.specs.Values.{is_value}
use Rattle.tt_suggest.specs.declared.suggestion.Move.{Move}
use Rattle.tt_suggest.specs.declared.branch.Branch.{Branch}
use Rattle.tt_suggest.specs.declared.suggestion.Rank.{Rank}
use Rattle.tt_suggest.specs.declared.suggestion.Suggested.{Suggested}
use Rattle.tt_suggest.specs.declared.suggestion.Suggestion.{Suggestion}
use Rattle.tt_suggest.specs.Suggestions.{suggestion_rank, suggestion_of}
use Rattle.tt_suggest.specs.Tree.{Node, child_by, gives_child, leaves_of, most_tries, tries_of}

-- a snapshot without the values of some classes
abbrev pub emptied : Snapshot → List ℕ → Snapshot
emptied s classes = fold (λ now class. with_value now class None) s classes

-- the class was placed on the way
abbrev pub is_on : List Move → (class : ℕ) → Bool
is_on path class = list_any (λ m. m.class == class) path

-- the node is the root, and the value is the one that the class has there
abbrev pub stays_at_root : Snapshot → List Move → (class : ℕ) → Value → Bool
stays_at_root s path class v = length path == 0 && is_value (value_in s class) v

-- no more classes wait than may be placed, and none of those pushed out was placed on the way
abbrev pub may_follow : (spare : ℕ) → List Move → (others conflicts : List ℕ) → Bool
may_follow spare path others conflicts = nat_le (length others + length conflicts) spare && not (list_any (is_on path) conflicts)

-- the children of a node by a class at some values
abbrev pub children_by : Parts → (spare : ℕ) → Node → (class : ℕ) → (others : List ℕ) → List Value → List Node
children_by p spare node class others values = map (child_by p node class others) (filter (gives_child p spare node class others) values)

-- the node of a branch at a snapshot
abbrev pub node_of : Snapshot → Branch → Node
node_of s b = record { snapshot = s; path = b.path.items; waiting = b.class ∷ b.others.items }

-- the child of a branch by its class at a value
abbrev pub child_of : Parts → Snapshot → Branch → Value → Node
child_of p s b v = child_by p (node_of s b) b.class b.others.items v

-- the suggestion of a branch whose class gets a value and pushes out nothing
abbrev pub leaf_of : Branch → Value → Rank → Suggestion
leaf_of b v rank = record { moves = b.path.items ++ record { class = b.class; value = v } ∷ []; total = rank.total; moved = rank.moved }

-- how many values are tried below the children of a branch by some values
unfoldable pub tries_by : Parts → Snapshot → Branch → List Value → ℕ
tries_by p s b values = sum_by (tries_of p b.spare) (children_by p b.spare (node_of s b) b.class b.others.items values)

-- the suggestions below the children of a branch by some values
unfoldable pub suggestions_by : Parts → Option Timetable → Snapshot → Branch → List Value → List Suggestion
suggestions_by p published s b values =
    map (suggestion_of p published) (flat_map (leaves_of p b.spare) (children_by p b.spare (node_of s b) b.class b.others.items values))

-- the branch is of the problem at this snapshot, whose moved classes it counts
pub record IsBranchOf (p : Parts) (published : Option Timetable) (s : Snapshot) (b : Branch) : Type 0 where
  pub class : b.class < length p.classes
  pub others : All (λ other. other < length p.classes) b.others.items
  pub spare : b.spare ≤ 2
  pub moved : b.moved ≡ moved_in p published s.plan

-- the second state is the first with some moments more in its last step
pub record HasGoneOn (old new : Contents) : Type 0 where
  pub step : IsWithinStep old new
  pub more : List Snapshot
  pub trail : trail new ≡ trail old ++ more

-- the second state is at the moment of the first
pub record IsBack (old new : Contents) : Type 0 where
  pub step : IsWithinStep (with_taken old []) (with_taken new [])
  pub present : new.present ≡ old.present
  pub trail : trail new ≡ trail old

-- what is found once so many values were tried that gave these suggestions
pub record AreFoundIn (tries : ℕ) (xs : List Suggestion) (old new : Suggested) : Type 0 where
  pub tried : new.tried ≡ old.tried + tries
  pub best : new.best ≡ least_after suggestion_rank old.best xs
  pub few : new.tried ≤ most_tries

-- what is found once all below a node was tried, where so many placements are left
abbrev pub FindsAt : Parts → Option Timetable → (left : ℕ) → Node → (old new : Suggested) → Type 0
FindsAt p aim left node old new = AreFoundIn (tries_of p left node) (map (suggestion_of p aim) (leaves_of p left node)) old new

-- what is found below a branch at the snapshot of a state
abbrev pub FindsBelow : Contents → Option Timetable → Branch → (old new : Suggested) → Type 0
FindsBelow state aim b old new = FindsAt state.problem aim (suc b.spare) (node_of state.present b) old new

-- what is found below the child of a branch by its class at a value
abbrev pub FindsAtChild : Contents → Option Timetable → Branch → Value → (old new : Suggested) → Type 0
FindsAtChild state aim b v old new = FindsAt state.problem aim b.spare (child_of state.problem state.present b v) old new

-- what is found by a value of the class of a branch: that, if the value gives a child
abbrev pub FindsBy : Contents → Option Timetable → Branch → Value → (old new : Suggested) → Type 0
FindsBy state aim b v old new =
    AreFoundIn (tries_by state.problem state.present b (v ∷ [])) (suggestions_by state.problem aim state.present b (v ∷ [])) old new

-- how many values are tried below a branch
abbrev pub tries_below : Contents → Branch → ℕ
tries_below state b = tries_of state.problem (suc b.spare) (node_of state.present b)

-- how many values are tried below its child by a value
abbrev pub tries_at_child : Contents → Branch → Value → ℕ
tries_at_child state b v = tries_of state.problem b.spare (child_of state.problem state.present b v)
