-- What is found by one value of a class.
use Rattle.std.proofs.Common.{◌≡◌, ◌∙◌, ℕ, ◌+◌, ◌<◌, ◌≤◌, Bool, true, false, Option, None, Some, Result, Ok, Err, List, [], ◌∷◌, ◌++◌, length, map, refl, ap, sym, arith}
use Rattle.std.specs.Prelude.{All, ◌&&◌, not, is_none, nat_le, IsSomeAnd, OnOk}
use Rattle.std.specs.declared.cmp.Ordering.TheVariants.{Greater}
use Rattle.std.specs.Cmp.{nat_cmp_is}
use Rattle.std.specs.List.{list_any}
use Rattle.std.proofs.lemmas.Bool.{leb-true}
use Rattle.tt_base.specs.Lists.{is_less, least_after}
use Rattle.tt_base.proofs.ListLemmas.{least_after_none}
use Rattle.tt_bits.specs.declared.times.Value.{Value}
use Rattle.tt_problem.specs.declared.parts.Parts.{Parts}
use Rattle.tt_published.specs.Published.{moved_in}
use Rattle.tt_published.specs.Timetable.{Timetable}
use Rattle.tt_state.specs.declared.obstacle.Obstacle.{Obstacle}
use Rattle.tt_state.specs.Snapshots.{Snapshot, is_locked_in, with_value}
use Rattle.tt_state.specs.Values.{conflict_set_of, obstacle_of, total_with}
use Rattle.tt_state.proofs.ObstacleLemmas.{none_held}
use Rattle.tt_suggest.specs.declared.branch.Branch.{Branch}
use Rattle.tt_suggest.specs.declared.suggestion.Rank.{Rank}
use Rattle.tt_suggest.specs.declared.suggestion.Suggested.{Suggested}
use Rattle.tt_suggest.specs.declared.suggestion.Suggestion.{Suggestion}
use Rattle.tt_suggest.specs.Ranks.{rank_numbers}
use Rattle.tt_suggest.specs.Suggestions.{suggestion_rank, suggestion_of}
use Rattle.tt_suggest.specs.Tree.{Node, gives_child, leaves_of, tries_of}
use Rattle.tt_suggest.specs.Walks.{AreFoundIn, child_of, emptied, is_on, leaf_of, node_of, stays_at_root, suggestions_by, tries_by}
use Rattle.tt_suggest.proofs.TreeLemmas.{barren_suggestions, barren_tries, child_suggestions, child_tries, leaf_leaves, leaf_tries}

-- the class of a branch gives a child at a value
abbrev pub gives : Parts → Snapshot → Branch → Value → Bool
gives p s b v = gives_child p b.spare (node_of s b) b.class b.others.items v

-- nothing is found by a value that gives no child
pub barren_found : (p : Parts) (published : Option Timetable) (s : Snapshot) (b : Branch) (v : Value) (now : Suggested) → gives p s b v ≡ false → now.tried ≤ 1000000
    → AreFoundIn (tries_by p s b (v ∷ [])) (suggestions_by p published s b (v ∷ [])) now now
barren_found p published s b v now none few = record {
  tried = omega (arith, barren_tries p s b v none);
  best = sym (ap (least_after suggestion_rank now.best) (barren_suggestions p published s b v none) ∙ least_after_none suggestion_rank now.best);
  few = few;
}

-- what is found below the child
pub child_found : (p : Parts) (published : Option Timetable) (s : Snapshot) (b : Branch) (v : Value) (old new : Suggested) → gives p s b v ≡ true
    → AreFoundIn (tries_of p b.spare (child_of p s b v)) (map (suggestion_of p published) (leaves_of p b.spare (child_of p s b v))) old new
    → AreFoundIn (tries_by p s b (v ∷ [])) (suggestions_by p published s b (v ∷ [])) old new
child_found p published s b v old new some found = record {
  tried = omega (arith, found.tried, child_tries p s b v some);
  best = found.best ∙ ap (least_after suggestion_rank old.best) (sym (child_suggestions p published s b v some));
  few = found.few;
}

-- with too many below the child there are too many by the value
pub child_too_many : (p : Parts) (s : Snapshot) (b : Branch) (v : Value) (n : ℕ) → gives p s b v ≡ true → 1000000 < n + tries_of p b.spare (child_of p s b v) → 1000000 < n + tries_by p s b (v ∷ [])
child_too_many p s b v n some above = omega (arith, above, child_tries p s b v some)

-- the suggestion of a child where no class waits
leaf_is : (p : Parts) (published : Option Timetable) (s : Snapshot) (b : Branch) (v : Value) (rank : Rank) → conflict_set_of p s b.class v ≡ []
    → rank_numbers rank ≡ total_with p s b.class v ∷ moved_in p published (with_value s b.class (Some v)).plan ∷ []
    → leaf_of b v rank ≡ suggestion_of p published (child_of p s b v)
unfolding total_with
leaf_is p published s b v rank none ranked =
    let total : rank.total ≡ total_with p s b.class v = cc in
    let moved : rank.moved ≡ moved_in p published (with_value s b.class (Some v)).plan = cc in
    let first : leaf_of b v rank ≡ suggestion_of p published (alone_at p s b v []) = rw (total, moved) refl in
    first ∙ ap (λ others. suggestion_of p published (alone_at p s b v others)) (sym none)
  where
    alone_at : Parts → Snapshot → Branch → Value → List ℕ → Node
    alone_at p s b v others = record {
      snapshot = with_value (emptied s others) b.class (Some v);
      path = b.path.items ++ record { class = b.class; value = v } ∷ [];
      waiting = b.others.items ++ conflict_set_of p s b.class v;
    }

-- what is found where the child is a suggestion
pub leaf_found : (p : Parts) (published : Option Timetable) (s : Snapshot) (b : Branch) (v : Value) (rank : Rank) (old new : Suggested) → gives p s b v ≡ true → b.others.items ≡ [] → conflict_set_of p s b.class v ≡ []
    → rank_numbers rank ≡ total_with p s b.class v ∷ moved_in p published (with_value s b.class (Some v)).plan ∷ []
    → new.tried ≡ old.tried → old.tried ≤ 1000000 → new.best ≡ least_after suggestion_rank old.best (leaf_of b v rank ∷ [])
    → AreFoundIn (tries_by p s b (v ∷ [])) (suggestions_by p published s b (v ∷ [])) old new
leaf_found p published s b v rank old new some alone none ranked tried few best =
    let waiting : (child_of p s b v).waiting ≡ [] = ap (λ xs. xs ++ conflict_set_of p s b.class v) alone ∙ none in
    let leaves : suggestions_by p published s b (v ∷ []) ≡ leaf_of b v rank ∷ [] =
    child_suggestions p published s b v some
    ∙ ap (map (suggestion_of p published)) (leaf_leaves p b.spare (child_of p s b v) waiting)
    ∙ ap (λ x. x ∷ []) (sym (leaf_is p published s b v rank none ranked)) in
    record {
      tried = omega (arith, tried, child_tries p s b v some, leaf_tries p b.spare (child_of p s b v) waiting);
      best = best ∙ ap (least_after suggestion_rank old.best) (sym leaves);
      few = omega (arith, tried, few);
    }

-- what was found stays where a later suggestion has a higher total
found_stays : (found : Option Suggestion) (later : Suggestion) → IsSomeAnd found (λ best. best.total < later.total) → found ≡ least_after suggestion_rank found (later ∷ [])
found_stays None later above = absurd above
found_stays (Some best) later above =
    let behind : is_less suggestion_rank later best ≡ false = rw (sym (nat_cmp_is later.total best.total Greater above)) refl in
    rw behind refl

-- the same where the child is a suggestion that has a higher total than what was found
pub leaf_above : (p : Parts) (published : Option Timetable) (s : Snapshot) (b : Branch) (v : Value) (now : Suggested) → gives p s b v ≡ true → b.others.items ≡ [] → conflict_set_of p s b.class v ≡ [] → now.tried ≤ 1000000
    → IsSomeAnd now.best (λ best. best.total < total_with p s b.class v)
    → AreFoundIn (tries_by p s b (v ∷ [])) (suggestions_by p published s b (v ∷ [])) now now
leaf_above p published s b v now some alone none few above =
    let rank : Rank = record { total = total_with p s b.class v; moved = moved_in p published (with_value s b.class (Some v)).plan } in
    leaf_found p published s b v rank now now some alone none refl refl few (found_stays now.best (leaf_of b v rank) above)

first_and_third : (a b c d : Bool) → (a && b && c && d) ≡ true → (a ≡ true) × (c ≡ true)
first_and_third true true true d is = (refl, refl)
first_and_third true true false d is = absurd (cc)
first_and_third true false c d is = absurd (cc)
first_and_third false b c d is = absurd (cc)

-- what is known of a value that gives a child
gives_both : (p : Parts) (s : Snapshot) (b : Branch) (v : Value) → gives p s b v ≡ true
    → (is_none (obstacle_of p s b.class v) ≡ true) × (nat_le (length b.others.items + length (conflict_set_of p s b.class v)) b.spare ≡ true)
unfolding gives_child
gives_both p s b v some =
    first_and_third
    (is_none (obstacle_of p s b.class v))
    (not (stays_at_root s b.path.items b.class v))
    (nat_le (length b.others.items + length (conflict_set_of p s b.class v)) b.spare)
    (not (list_any (is_on b.path.items) (conflict_set_of p s b.class v)))
    some

-- no more classes wait at a child than may be placed
pub child_spare : (p : Parts) (s : Snapshot) (b : Branch) (v : Value) → gives p s b v ≡ true → length b.others.items + length (conflict_set_of p s b.class v) ≤ b.spare
child_spare p s b v some = leb-true _ _ (gives_both p s b v some).1

-- and none of the classes that are pushed out is locked
pub child_free : (p : Parts) (s : Snapshot) (b : Branch) (v : Value) → gives p s b v ≡ true → All (λ other. is_locked_in s other ≡ false) (conflict_set_of p s b.class v)
child_free p s b v some = none_held p s b.class v (none_is (obstacle_of p s b.class v) (gives_both p s b v some).0)
  where
    none_is : (o : Option Obstacle) → is_none o ≡ true → o ≡ None
    none_is None is = refl
    none_is (Some obstacle) is = absurd (cc)

-- what follows where an answer is Ok
pub on_ok : {A B X E : Type 0} (r : Result X E) → (A → B) → OnOk r A → OnOk r B
on_ok (Ok x) f a = f a
on_ok (Err e) f a = a
