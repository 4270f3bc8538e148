-- The one choice of a node all of whose classes are chosen, and what the rest of a choice costs.
use Rattle.std.proofs.Common.{◌≡◌, ℕ, zero, suc, ◌+◌, ◌<◌, ◌≤◌, List, [], ◌∷◌, Option, Some, None, true, length, get_or, drop, take, min, count_by, ap, sym, subst, ◌∙◌, arith}
use Rattle.std.specs.Prelude.{slice_get, IfSome}
use Rattle.std.proofs.lemmas.List.Sums.{sum_by-cons}
use Rattle.std.proofs.lemmas.List.{ext_get_or, get_or-take, length-take-le}
use Rattle.tt_problem.specs.declared.parts.Span.{Span}
use Rattle.tt_least.specs.declared.table.Table.{Table}
use Rattle.tt_least.specs.declared.level.Level.{Level}
use Rattle.tt_least.specs.Choices.{IsChoice}
use Rattle.tt_least.specs.Judged.{conflict_in, is_allowed, pairs_in, weight_in}
use Rattle.tt_least.specs.Nodes.{IsLeft, IsNode, IsOf}
use Rattle.tt_least.specs.Results.{IsInVain}
use Rattle.tt_least.proofs.ChoiceLemmas.{choice-long}

-- a choice from a place on costs the class there, its conflicts with those after it, and those after it
pub pairs-from : (t : Table) (choice : List ℕ) (k : ℕ) → k < length choice
    → pairs_in t (drop k choice) ≡ weight_in t (get_or choice k 0) + count_by (conflict_in t (get_or choice k 0)) (drop (k + 1) choice) + pairs_in t (drop (k + 1) choice)
pairs-from t [] k below = absurd (omega arith)
pairs-from t (c ∷ choice) zero below = omega (arith, sum_by-cons (weight_in t) c choice)
pairs-from t (c ∷ choice) (suc k) below =
    let e : suc k + 1 ≡ suc (k + 1) = omega arith in
    rw e (pairs-from t choice k (omega arith))

-- a sum that stops at a number, as one part after the other is added, stops where the sum of all would
pub saturated-step : (most total once twice sum weight conflicts rest : ℕ) → once ≡ min (sum + weight) most → twice ≡ min (once + conflicts) most
    → min (sum + (weight + conflicts + rest)) most ≡ total → min (twice + rest) most ≡ total
saturated-step most total once twice sum weight conflicts rest first second all = omega arith

-- a list as long as the subparts, with a class of each subpart at its place, is a choice
pub choice-from : (subparts : List Span) (choice : List ℕ) → length choice ≡ length subparts
    → ((k : ℕ) → k < length subparts → IfSome (slice_get subparts k) (λ s. (s.first ≤ get_or choice k 0) × (get_or choice k 0 < s.after))) → IsChoice subparts choice
choice-from [] [] long each = tt
choice-from [] (c ∷ choice) long each = absurd (omega arith)
choice-from (s ∷ subparts) [] long each = absurd (omega arith)
choice-from (s ∷ subparts) (c ∷ choice) long each =
    let here = each zero (omega arith) in
    (here.0, here.1, choice-from subparts choice (omega arith) (λ k below. each (suc k) (omega arith)))

-- the classes at the front of a buffer are those that are chosen, where they were written there
chosen-written : (chosen : List (Option ℕ)) (front : List ℕ) (parts : ℕ) → ((k : ℕ) → k < parts → get_or chosen k None ≡ Some (get_or front k 0))
    → (k : ℕ) → k < parts → get_or chosen k None ≡ Some (get_or (take parts front) k 0)
chosen-written chosen front parts written k below = written k below ∙ ap Some (sym (get_or-take parts front k 0 below))

-- where a class of each subpart is chosen, they are a choice
pub written-choice : (t : Table) (l : Level) (front : List ℕ) → IsNode t l → length t.subparts.now ≤ length front
    → ((k : ℕ) → k < length t.subparts.now → get_or l.chosen.items k None ≡ Some (get_or front k 0)) → IsChoice t.subparts.now (take (length t.subparts.now) front)
written-choice t l front node room written =
    let parts = length t.subparts.now in
    choice-from t.subparts.now (take parts front) (length-take-le parts front room)
    (λ k below. node.chosen k (get_or (take parts front) k 0) (chosen-written l.chosen.items front parts written k below))

-- where a class of each subpart is chosen, the node has no other choice
written-only : (t : Table) (l : Level) (front other : List ℕ) → length t.subparts.now ≤ length front
    → ((k : ℕ) → k < length t.subparts.now → get_or l.chosen.items k None ≡ Some (get_or front k 0)) → IsOf t l other → other ≡ take (length t.subparts.now) front
written-only t l front other room written of =
    let parts = length t.subparts.now in
    let long = length-take-le parts front room in
    let other_long = choice-long t.subparts.now other of.is_left.one_of_each in
    ext_get_or 0 other (take parts front) (other_long ∙ sym long)
    (λ k below.
    let inner : k < parts = omega arith in
    subst (λ (found : Option ℕ). IfSome found (λ c. get_or other k 0 ≡ c)) (chosen-written l.chosen.items front parts written k inner) (of.chosen k inner))

-- where a class of each subpart is chosen, the node is in vain if their choice has too many pairs or is not allowed
pub written-vain : (t : Table) (l : Level) (limit : ℕ) (front : List ℕ) → length t.subparts.now ≤ length front
    → ((k : ℕ) → k < length t.subparts.now → get_or l.chosen.items k None ≡ Some (get_or front k 0))
    → (IsLeft t l.left.items (take (length t.subparts.now) front) → is_allowed t (take (length t.subparts.now) front) ≡ true → limit < pairs_in t (take (length t.subparts.now) front))
    → IsInVain t l limit
written-vain t l limit front room written vain = record {
  each = λ other of allowed.
      let same = written-only t l front other room written of in
      let left = subst (IsLeft t l.left.items) same of.is_left in
      let allowed_too = subst (λ (c : List ℕ). is_allowed t c ≡ true) same allowed in
      subst (λ (c : List ℕ). limit < pairs_in t c) (sym same) (vain left allowed_too);
}
