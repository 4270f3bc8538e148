-- The tree of placements, along the values of a class.
use Rattle.std.proofs.Common.{◌≡◌, ℕ, zero, suc, ◌+◌, ◌<◌, ◌≤◌, Bool, true, false, Option, Some, List, [], ◌∷◌, ◌++◌, length, map, drop, refl, ap, sym, ◌∙◌, cond, arith, append-nil}
use Rattle.std.specs.Prelude.{slice_get}
use Rattle.std.specs.List.{filter, flat_map, sum_by}
use Rattle.std.proofs.lemmas.List.{drop_all}
use Rattle.std.proofs.lemmas.List.Sums.{sum_by-cons}
use Rattle.tt_base.specs.Lists.{least_after}
use Rattle.tt_base.proofs.ListLemmas.{drop_at, least_after_append, least_after_none}
use Rattle.tt_bits.specs.declared.times.Value.{Value}
use Rattle.tt_problem.specs.declared.parts.Parts.{Parts}
use Rattle.tt_plan.specs.Domain.{domain_of}
use Rattle.tt_published.specs.Timetable.{Timetable}
use Rattle.tt_state.specs.Snapshots.{Snapshot}
use Rattle.tt_suggest.specs.declared.branch.Branch.{Branch}
use Rattle.tt_suggest.specs.declared.suggestion.Suggested.{Suggested}
use Rattle.tt_suggest.specs.declared.suggestion.Suggestion.{Suggestion}
use Rattle.tt_suggest.specs.Suggestions.{suggestion_rank, suggestion_of}
use Rattle.tt_suggest.specs.Tree.{Node, gives_child, leaves_of, tries_of}
use Rattle.tt_suggest.specs.Walks.{AreFoundIn, child_of, node_of, suggestions_by, tries_by}

-- a node without a waiting class is a leaf
pub leaf_leaves : (p : Parts) (left : ℕ) (node : Node) → node.waiting ≡ [] → leaves_of p left node ≡ node ∷ []
unfolding leaves_of
leaf_leaves p zero node none = rw none refl
leaf_leaves p (suc left) node none = rw none refl

-- at which nothing is tried
pub leaf_tries : (p : Parts) (left : ℕ) (node : Node) → node.waiting ≡ [] → tries_of p left node ≡ 0
unfolding tries_of
leaf_tries p zero node none = refl
leaf_tries p (suc left) node none = rw none refl

-- at the node of a branch each value of its class is tried
pub branch_tries : (p : Parts) (s : Snapshot) (b : Branch) → tries_of p (suc b.spare) (node_of s b) ≡ length (domain_of p b.class) + tries_by p s b (domain_of p b.class)
unfolding tries_of tries_by
branch_tries p s b = refl

pub branch_suggestions : (p : Parts) (published : Option Timetable) (s : Snapshot) (b : Branch)
    → map (suggestion_of p published) (leaves_of p (suc b.spare) (node_of s b)) ≡ suggestions_by p published s b (domain_of p b.class)
unfolding leaves_of suggestions_by
branch_suggestions p published s b = refl

map_append : {A B : Type 0} (f : A → B) (xs ys : List A) → map f (xs ++ ys) ≡ map f xs ++ map f ys
map_append f [] ys = refl
map_append f (x ∷ xs) ys = ap (λ zs. f x ∷ zs) (map_append f xs ys)

-- by no value there is nothing
pub none_tries : (p : Parts) (s : Snapshot) (b : Branch) → tries_by p s b [] ≡ 0
unfolding tries_by
none_tries p s b = refl

pub none_suggestions : (p : Parts) (published : Option Timetable) (s : Snapshot) (b : Branch) → suggestions_by p published s b [] ≡ []
unfolding suggestions_by
none_suggestions p published s b = refl

tries_if : (tries : Node → ℕ) (child : Value → Node) (v : Value) (vs : List Value) (gives : Value → Bool) (b : Bool)
    → sum_by tries (map child (cond b (v ∷ filter gives vs) (filter gives vs))) ≡ sum_by tries (map child (cond b (v ∷ []) [])) + sum_by tries (map child (filter gives vs))
tries_if tries child v vs gives true = sum_by-cons tries (child v) (map child (filter gives vs)) ∙ omega arith
tries_if tries child v vs gives false = omega arith

-- by one value and then by others
pub next_tries : (p : Parts) (s : Snapshot) (b : Branch) (v : Value) (vs : List Value) → tries_by p s b (v ∷ vs) ≡ tries_by p s b (v ∷ []) + tries_by p s b vs
unfolding tries_by
next_tries p s b v vs =
    let gives = gives_child p b.spare (node_of s b) b.class b.others.items in
    tries_if (tries_of p b.spare) (child_of p s b) v vs gives (gives v)

suggestions_if : (x : Node → Suggestion) (leaves : Node → List Node) (child : Value → Node) (v : Value) (vs : List Value) (gives : Value → Bool) (b : Bool)
    → map x (flat_map leaves (map child (cond b (v ∷ filter gives vs) (filter gives vs)))) ≡ map x (flat_map leaves (map child (cond b (v ∷ []) []))) ++ map x (flat_map leaves (map child (filter gives vs)))
suggestions_if x leaves child v vs gives true =
    map_append x (leaves (child v)) (flat_map leaves (map child (filter gives vs)))
    ∙ ap (λ ys. map x ys ++ map x (flat_map leaves (map child (filter gives vs)))) (sym (append-nil (leaves (child v))))
suggestions_if x leaves child v vs gives false = refl

pub next_suggestions : (p : Parts) (published : Option Timetable) (s : Snapshot) (b : Branch) (v : Value) (vs : List Value)
    → suggestions_by p published s b (v ∷ vs) ≡ suggestions_by p published s b (v ∷ []) ++ suggestions_by p published s b vs
unfolding suggestions_by
next_suggestions p published s b v vs =
    let gives = gives_child p b.spare (node_of s b) b.class b.others.items in
    suggestions_if (suggestion_of p published) (leaves_of p b.spare) (child_of p s b) v vs gives (gives v)

-- by a value that gives no child there is nothing
pub barren_tries : (p : Parts) (s : Snapshot) (b : Branch) (v : Value) → gives_child p b.spare (node_of s b) b.class b.others.items v ≡ false → tries_by p s b (v ∷ []) ≡ 0
unfolding tries_by
barren_tries p s b v none = rw none refl

pub barren_suggestions : (p : Parts) (published : Option Timetable) (s : Snapshot) (b : Branch) (v : Value) → gives_child p b.spare (node_of s b) b.class b.others.items v ≡ false
    → suggestions_by p published s b (v ∷ []) ≡ []
unfolding suggestions_by
barren_suggestions p published s b v none = rw none refl

-- by a value that gives a child there is what is below the child
pub child_tries : (p : Parts) (s : Snapshot) (b : Branch) (v : Value) → gives_child p b.spare (node_of s b) b.class b.others.items v ≡ true
    → tries_by p s b (v ∷ []) ≡ tries_of p b.spare (child_of p s b v)
unfolding tries_by
child_tries p s b v some = rw some (omega arith)

pub child_suggestions : (p : Parts) (published : Option Timetable) (s : Snapshot) (b : Branch) (v : Value) → gives_child p b.spare (node_of s b) b.class b.others.items v ≡ true
    → suggestions_by p published s b (v ∷ []) ≡ map (suggestion_of p published) (leaves_of p b.spare (child_of p s b v))
unfolding suggestions_by
child_suggestions p published s b v some = rw some (ap (map (suggestion_of p published)) (append-nil (leaves_of p b.spare (child_of p s b v))))

-- what is found so far, where the values from the k-th on are still to be tried
pub record IsOnWay (p : Parts) (published : Option Timetable) (s : Snapshot) (b : Branch) (now : Suggested) (k tried : ℕ) (best : Option Suggestion) : Type 0 where
  pub tries : now.tried + tries_by p s b (drop k (domain_of p b.class)) ≡ tried
  pub least : least_after suggestion_rank now.best (suggestions_by p published s b (drop k (domain_of p b.class))) ≡ best
  pub few : now.tried ≤ 1000000

-- before the first value
pub way_start : (p : Parts) (published : Option Timetable) (s : Snapshot) (b : Branch) (old now : Suggested) (count : ℕ) → count ≡ length (domain_of p b.class) → now.tried ≡ old.tried + count → now.best ≡ old.best → now.tried ≤ 1000000
    → IsOnWay p published s b now 0 (old.tried + tries_of p (suc b.spare) (node_of s b)) (least_after suggestion_rank old.best (map (suggestion_of p published) (leaves_of p (suc b.spare) (node_of s b))))
way_start p published s b old now count size tried best few = record {
  tries = omega (arith, size, tried, branch_tries p s b);
  least = rw (best, branch_suggestions p published s b) refl;
  few = few;
}

-- one value more
pub way_next : (p : Parts) (published : Option Timetable) (s : Snapshot) (b : Branch) (now next : Suggested) (k : ℕ) (v : Value) (tried : ℕ) (best : Option Suggestion)
    → IsOnWay p published s b now k tried best → slice_get (domain_of p b.class) k ≡ Some v → AreFoundIn (tries_by p s b (v ∷ [])) (suggestions_by p published s b (v ∷ [])) now next
    → IsOnWay p published s b next (k + 1) tried best
way_next p published s b now next k v tried best on at found =
    let rest = drop (k + 1) (domain_of p b.class) in
    let split = drop_at (domain_of p b.class) k v at in
    record {
      tries = omega (arith, found.tried, next_tries p s b v rest, rw split at on.tries);
      least =
          ap (λ o. least_after suggestion_rank o (suggestions_by p published s b rest)) found.best
          ∙ sym (least_after_append suggestion_rank now.best (suggestions_by p published s b (v ∷ [])) (suggestions_by p published s b rest))
          ∙ ap (least_after suggestion_rank now.best) (sym (next_suggestions p published s b v rest))
          ∙ rw split at on.least;
      few = found.few;
    }

-- after the last value
pub way_end : (p : Parts) (published : Option Timetable) (s : Snapshot) (b : Branch) (old now : Suggested) (k tries : ℕ) (xs : List Suggestion)
    → IsOnWay p published s b now k (old.tried + tries) (least_after suggestion_rank old.best xs) → length (domain_of p b.class) ≤ k → AreFoundIn tries xs old now
way_end p published s b old now k tries xs on past =
    let none = drop_all k (domain_of p b.class) past in
    record {
      tried = omega (arith, rw none at on.tries, none_tries p s b);
      best = sym (least_after_none suggestion_rank now.best) ∙ rw (none, none_suggestions p published s b) at on.least;
      few = on.few;
    }

-- where there are too many below a value, there are too many
pub way_too_many : (p : Parts) (published : Option Timetable) (s : Snapshot) (b : Branch) (now : Suggested) (k : ℕ) (v : Value) (tried : ℕ) (best : Option Suggestion)
    → IsOnWay p published s b now k tried best → slice_get (domain_of p b.class) k ≡ Some v → 1000000 < now.tried + tries_by p s b (v ∷ []) → 1000000 < tried
way_too_many p published s b now k v tried best on at above =
    let rest = drop (k + 1) (domain_of p b.class) in
    let split = drop_at (domain_of p b.class) k v at in
    omega (arith, above, next_tries p s b v rest, rw split at on.tries)
