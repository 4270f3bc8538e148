-- Choices of a node by the class of one subpart.
use Rattle.std.proofs.Common.{◌≡◌, ◌∙◌, ℕ, zero, suc, ◌<◌, ◌≤◌, Bool, true, false, cond, List, [], ◌∷◌, Option, Some, None, length, get_or, take, arith, refl, ap, subst}
use Rattle.std.specs.Prelude.{⊤, All, IfSome, count_by, slice_get, slice_index_or}
use Rattle.std.specs.Option.{is_none}
use Rattle.std.proofs.lemmas.Bool.{both_ways}
use Rattle.std.proofs.lemmas.List.{length-take}
use Rattle.std.proofs.lemmas.List.Elements.{All-head, All-rest}
use Rattle.std.proofs.lemmas.List.Sums.{AllPass-from_list_all, count_by-le-length, sum_by-cons}
use Rattle.std.proofs.lemmas.Option.{MatchOption-at_some, slice_get-get_or}
use Rattle.tt_problem.specs.declared.parts.Span.{Span}
use Rattle.tt_problem.specs.Spans.{is_in}
use Rattle.tt_least.specs.declared.table.Table.{Table}
use Rattle.tt_least.specs.declared.level.Level.{Level}
use Rattle.tt_least.specs.Judged.{IsIn, IsTable, is_allowed, is_flagged, pairs_in}
use Rattle.tt_least.specs.Nodes.{HasPlaces, IsChild, IsLeft, IsNode, IsOf, count_to_come}
use Rattle.tt_least.specs.Results.{IsInVain, IsNarrowed, IsWithin, NoneWithin}
use Rattle.tt_least.proofs.ChoiceLemmas.{choice-at, choice-long, in-bounds}
use Rattle.tt_least.proofs.NodeLemmas.{child-node, child-split, child-within, class-in, count-child}

-- an item that is none is counted where there is one
some-none : (n k : ℕ) (xs : List (Option ℕ)) → k < n → k < length xs → slice_index_or xs k None ≡ None → 0 < count_by is_none (take n xs)
some-none zero k xs less below none = absurd (omega arith)
some-none (suc n) k [] less below none = absurd (omega arith)
some-none (suc n) zero (x ∷ xs) less below none =
    let one : ◌≡◌ {A = ℕ} (cond (is_none x) 1 0) 1 = rw none refl in
    omega (arith, sum_by-cons (λ (o : Option ℕ). cond (is_none o) 1 0) x (take n xs), one)
some-none (suc n) (suc k) (x ∷ xs) less below none =
    omega (arith, sum_by-cons (λ (o : Option ℕ). cond (is_none o) 1 0) x (take n xs), some-none n k xs (omega arith) (omega arith) none)

-- a subpart is to come where one has no class that is chosen
pub some-to_come : (t : Table) (l : Level) (k : ℕ) → IsTable t → HasPlaces t.size l → k < length t.subparts.now → slice_index_or l.chosen.items k None ≡ None
    → 0 < count_to_come t l
some-to_come t l k table places within open' =
    some-none (length t.subparts.now) k l.chosen.items within (omega (arith, table.few, places.chosen)) open'

-- a choice of a node has no class that isn't left
pub not-chosen : (t : Table) (l : Level) (k c : ℕ) → k < length t.subparts.now → is_flagged t l.left.items c ≡ false
    → (choice : List ℕ) → IsOf t l choice → slice_index_or choice k 0 ≡ c → ⊥
not-chosen t l k c within gone choice of is =
    let long = choice-long t.subparts.now choice of.is_left.one_of_each in
    let was = AllPass-from_list_all (is_flagged t l.left.items) choice of.is_left.are_left k 0 (omega arith) in
    both_ways (is_flagged t l.left.items c) gone (rw is at was)

-- a node is in vain where it is so with each class of a subpart
pub each-vain : (t : Table) (l : Level) (k limit : ℕ) (s : Span) → slice_get t.subparts.now k ≡ Some s
    → ((choice : List ℕ) → IsOf t l choice → slice_index_or choice k 0 < s.after → is_allowed t choice ≡ true → limit < pairs_in t choice)
    → IsInVain t l limit
each-vain t l k limit s at below = record {
  each = λ choice of allowed. below choice of (choice-at t.subparts.now choice k s of.is_left.one_of_each at).1 allowed;
}

-- no choice has a class before those of its subpart
pub none-before : (t : Table) (l : Level) (k : ℕ) (s : Span) → slice_get t.subparts.now k ≡ Some s
    → (choice : List ℕ) → IsOf t l choice → slice_index_or choice k 0 < s.first → ⊥
none-before t l k s at choice of less =
    let from = (choice-at t.subparts.now choice k s of.is_left.one_of_each at).0 in
    absurd (omega (arith, from))

-- what is found with fewer classes left is found with more
pub within-more : (t : Table) (fewer more : List Bool) (limit : ℕ) (choice : List ℕ) → (IsLeft t fewer choice → IsLeft t more choice)
    → IsWithin t fewer limit choice → IsWithin t more limit choice
within-more t fewer more limit choice within found = record { is_left = within found.is_left; allowed = found.allowed; few = found.few }

-- the class of a subpart still to come is chosen of those that are left
pub record IsStep (t : Table) (l : Level) (k c : ℕ) (child : Level) : Type 0 where
  pub table : IsTable t
  pub places : HasPlaces t.size l
  pub child_places : HasPlaces t.size child
  pub some : k < length t.subparts.now
  pub to_come : slice_index_or l.chosen.items k None ≡ None
  pub inside : IfSome (slice_get t.subparts.now k) (λ s. is_in c s ≡ true)
  pub left : is_flagged t l.left.items c ≡ true
  pub is_child : IfSome (slice_get t.subparts.now k) (λ s. IsChild t l k s c child)

module _ (t : Table) (l : Level) (k c : ℕ) (child : Level) (step : IsStep t l k c child) where
  -- the span of the subpart
  abbrev span : Span
  span = get_or t.subparts.now k (record { first = 0; after = 0 })

  -- it stands at the subpart's place
  at : slice_get t.subparts.now k ≡ Some span
  at = slice_get-get_or t.subparts.now k (record { first = 0; after = 0 }) step.some

  -- the class lies within it
  bounds : (span.first ≤ c) × (c < span.after)
  bounds = in-bounds c span (MatchOption-at_some ⊤ (λ s. is_in c s ≡ true) span at step.inside)

  -- the child comes from the level by the class
  child-is : IsChild t l k span c child
  child-is = MatchOption-at_some ⊤ (λ s. IsChild t l k s c child) span at step.is_child

  -- the child is a node where the level is
  pub step-node : IsNode t l → IsNode t child
  step-node node = child-node t l child k span c step.table step.places step.child_places node at step.to_come bounds.0 bounds.1 step.left child-is

  -- one subpart fewer is to come
  pub step-count : suc (count_to_come t child) ≡ count_to_come t l
  step-count = count-child t l child k span c step.table step.places step.child_places at step.to_come bounds.0 bounds.1 step.left child-is

  -- what is found of the child is found of the level
  pub step-within : (limit : ℕ) (choice : List ℕ) → IsWithin t child.left.items limit choice → IsWithin t l.left.items limit choice
  step-within limit choice = within-more t child.left.items l.left.items limit choice
      (child-within t l child k span c step.table step.places step.child_places at step.to_come bounds.0 bounds.1 step.left child-is choice)

  -- where the child is in vain, so is the level with the class
  pub step-vain : (limit : ℕ) → IsInVain t child limit
      → (choice : List ℕ) → IsOf t l choice → slice_index_or choice k 0 ≡ c → is_allowed t choice ≡ true → limit < pairs_in t choice
  step-vain limit vain choice of is allowed =
      vain.each choice (child-split t l child k span c step.table step.places step.child_places at step.to_come bounds.0 bounds.1 step.left child-is choice of is) allowed

-- where a node with no class chosen is in vain, each allowed choice of what is left has more pairs
pub vain-none : (t : Table) (l : Level) (limit : ℕ) → ((k : ℕ) → slice_index_or l.chosen.items k None ≡ None) → IsInVain t l limit → NoneWithin t l.left.items limit
vain-none t l limit none vain = record {
  each = λ choice left allowed. vain.each choice (record { is_left = left; chosen = λ k less. rw (none k) tt }) allowed;
}

-- a class that is in the subpart at a place is one of the table's
pub inside-in : (t : Table) (k c : ℕ) → IsTable t → k < length t.subparts.now → IfSome (slice_get t.subparts.now k) (λ s. is_in c s ≡ true) → IsIn t c
inside-in t k c table within inside =
    let span = get_or t.subparts.now k (record { first = 0; after = 0 }) in
    let at = slice_get-get_or t.subparts.now k (record { first = 0; after = 0 }) within in
    let bounds = in-bounds c span (MatchOption-at_some ⊤ (λ s. is_in c s ≡ true) span at inside) in
    class-in t k c span table at bounds.0 bounds.1

-- what holds of each item of a list holds of the first and of the others
pub first-and-rest : {A : Type 0} (P : A → Type 0) (xs : List A) (x : A) (rest : List A) → xs ≡ x ∷ rest → All P xs → P x × All P rest
first-and-rest {A} P xs x rest is each = (All-head P x rest (subst (λ (list : List A). All P list) is each), All-rest P x rest xs is each)

-- a node with fewer classes left is narrowed where none of it is chosen and nothing that is sought is lost
pub unchosen-narrowed : (t : Table) (limit : ℕ) (old new : Level) → new ≡ record old { left = new.left } → length new.left.items ≡ length old.left.items
    → ((k : ℕ) → slice_index_or old.chosen.items k None ≡ None)
    → ((choice : List ℕ) → IsLeft t new.left.items choice → IsLeft t old.left.items choice) → (NoneWithin t new.left.items limit → NoneWithin t old.left.items limit)
    → IsNarrowed t limit old new
unchosen-narrowed t limit old new same places none within lost = record {
  same = same;
  places = places;
  within = within;
  vain = λ vain. record {
    each = λ choice of allowed.
        (lost (vain-none t new limit (λ k. ap (λ (l : Level). slice_index_or l.chosen.items k None) same ∙ none k) vain)).each choice of.is_left allowed;
  };
}

-- no more subparts are to come than there are
pub count-few : (t : Table) (l : Level) → count_to_come t l ≤ length t.subparts.now
count-few t l =
    let front = take (length t.subparts.now) l.chosen.items in
    omega (arith, count_by-le-length (is_none {T = ℕ}) front, length-take (length t.subparts.now) l.chosen.items)
