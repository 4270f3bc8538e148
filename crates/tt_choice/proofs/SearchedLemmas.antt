-- A configuration is judged in its table as in the situation.
use Rattle.std.proofs.Common.{◌≡◌, ℕ, ◌+◌, ◌-◌, ◌*◌, ◌<◌, ◌≤◌, Bool, true, false, cond, List, [], ◌∷◌, Option, Some, None, length, get_or, count_by, sum_by, arith, refl, sym, ap, ◌∙◌}
use Rattle.std.specs.Prelude.{◌&&◌, ◌||◌, IfSome, nat_eq, min, max}
use Rattle.std.specs.List.{list_all, AllByRecursion}
use Rattle.std.specs.Option.{option_map_or}
use Rattle.std.proofs.Math.Nat.{min-eq_left, max-eq_right}
use Rattle.std.proofs.lemmas.Bool.{and_parts}
use Rattle.std.proofs.lemmas.Bool.Decides.{nat_tests}
use Rattle.std.proofs.lemmas.List.Sums.{sum_by-cons}
use Rattle.std.proofs.lemmas.Option.{IfSome_then}
use Rattle.tt_base.specs.Among.{pairs_among}
use Rattle.tt_base.specs.Lists.{is_listed}
use Rattle.tt_problem.specs.declared.parts.Span.{Span}
use Rattle.tt_least.specs.declared.table.Table.{Table}
use Rattle.tt_least.specs.Choices.{AreApart, IsChoice}
use Rattle.tt_least.specs.Judged.{IsIn, IsMutual, conflict_in, has_parent, is_flagged, pairs_in, weight_in}
use Rattle.tt_least.specs.Nodes.{IsLeft}
use Rattle.tt_least.specs.Results.{IsLeast, NoneWithin}
use Rattle.tt_choice.specs.Least.{Situation, has_parent_with, is_allowed, may_be_taken, pairs_added}
use Rattle.tt_choice.specs.Searched.{already_pairs, either_conflicts, has_parent_already, lacks_none, parent_needed, AreSeated, IsFilled, IsFirstFewest, NoneAdds}
use Rattle.tt_choice.proofs.EachLemmas.{all_follow}

-- two classes are asked the same both ways
either-turned : (s : Situation) (c d : ℕ) → either_conflicts s c d ≡ either_conflicts s d c
either-turned s c d =
    let same : nat_eq c d ≡ nat_eq d c = grind (arith, nat_tests) in
    let low : min c d ≡ min d c = grind arith in
    let high : max c d ≡ max d c = grind arith in
    rw (same, low, high) refl

either-itself : (s : Situation) (c : ℕ) → either_conflicts s c c ≡ true
either-itself s c = let same : nat_eq c c ≡ true = grind (arith, nat_tests) in rw same refl

-- of a class and a higher one the first is asked
either-higher : (s : Situation) (c d : ℕ) → c < d → either_conflicts s c d ≡ s.conflicts c d
either-higher s c d lt =
    let other : nat_eq c d ≡ false = grind (arith, nat_tests) in
    let low : min c d ≡ c = min-eq_left (omega arith) in
    let high : max c d ≡ d = max-eq_right (omega arith) in
    rw (other, low, high) refl

-- conflicts of a filled table are the same both ways
pub filled-mutual : (s : Situation) (t : Table) → IsFilled s t → IsMutual t
filled-mutual s t h = record {
  both_ways = λ c d one other. h.conflicts c d one other ∙ either-turned s c d ∙ sym (h.conflicts d c other one);
  itself = λ c one. h.conflicts c c one one ∙ either-itself s c;
}

-- the classes of a choice ascend within those of the subparts
pub choice-within : (subparts : List Span) (first after : ℕ) (choice : List ℕ) → AreApart first subparts after → IsChoice subparts choice → AllByRecursion (λ c. (first ≤ c) × (c < after)) choice
choice-within [] first after [] h is = tt
choice-within [] first after (c ∷ choice) h is = absurd is
choice-within (s ∷ subparts) first after [] h is = absurd is
choice-within (s ∷ subparts) first after (c ∷ choice) h is =
    ((omega (arith, h.0, is.0), below subparts s.after h.2 is.1), weaken choice (omega (arith, h.0, h.1)) (choice-within subparts s.after after choice h.2 is.2))
  where
    below : (spans : List Span) (low : ℕ) → AreApart low spans after → c < low → c < after
    below [] low le lt = omega (arith, le)
    below (t ∷ spans) low parts lt = below spans t.after parts.2 (omega (arith, parts.0, parts.1))

    weaken : (xs : List ℕ) → first ≤ s.after → AllByRecursion (λ d. (s.after ≤ d) × (d < after)) xs → AllByRecursion (λ d. (first ≤ d) × (d < after)) xs
    weaken [] le all = tt
    weaken (d ∷ xs) le all = ((omega (arith, le, all.0.0), all.0.1), weaken xs le all.1)

module _ (s : Situation) (t : Table) (filled : IsFilled s t) where
  -- a class conflicts with as many higher ones
  count-same : (c : ℕ) (xs : List ℕ) → IsIn t c → AllByRecursion (λ d. IsIn t d × c < d) xs → count_by (conflict_in t c) xs ≡ count_by (s.conflicts c) xs
  count-same c [] is h = refl
  count-same c (d ∷ xs) is h =
      let one : conflict_in t c d ≡ s.conflicts c d = filled.conflicts c d is h.0.0 ∙ either-higher s c d h.0.1 in
      sum_by-cons (λ (e : ℕ). cond (conflict_in t c e) 1 0) d xs
      ∙ (rw (one, count-same c xs is h.1) refl)
      ∙ sym (sum_by-cons (λ (e : ℕ). cond (s.conflicts c e) 1 0) d xs)

  in-table : (first after : ℕ) (xs : List ℕ) → t.first ≤ first → after ≤ t.first + t.count → AllByRecursion (λ d. (first ≤ d) × (d < after)) xs → AllByRecursion (IsIn t) xs
  in-table first after [] low high h = tt
  in-table first after (d ∷ xs) low high h = ((omega (arith, low, h.0.0), omega (arith, high, h.0.1)), in-table first after xs low high h.1)

  higher : (c first after : ℕ) (xs : List ℕ) → c < first → t.first ≤ first → after ≤ t.first + t.count → AllByRecursion (λ d. (first ≤ d) × (d < after)) xs → AllByRecursion (λ d. IsIn t d × c < d) xs
  higher c first after [] lt low high h = tt
  higher c first after (d ∷ xs) lt low high h = (((omega (arith, low, h.0.0), omega (arith, high, h.0.1)), omega (arith, lt, h.0.0)), higher c first after xs lt low high h.1)

  among-same : (subparts : List Span) (first after : ℕ) (xs : List ℕ) → t.first ≤ first → after ≤ t.first + t.count → AreApart first subparts after → IsChoice subparts xs
      → pairs_among (conflict_in t) xs ≡ pairs_among s.conflicts xs
  among-same [] first after [] low high h is = refl
  among-same [] first after (c ∷ xs) low high h is = absurd is
  among-same (p ∷ subparts) first after [] low high h is = absurd is
  among-same (p ∷ subparts) first after (c ∷ xs) low high h is =
      let mine = choice-within (p ∷ subparts) first after (c ∷ xs) h is in
      let later = choice-within subparts p.after after xs h.2 is.2 in
      let from : t.first ≤ p.after = omega (arith, low, h.0, h.1) in
      let one = count-same c xs (omega (arith, low, mine.0.0), omega (arith, high, mine.0.1)) (higher c p.after after xs is.1 from high later) in
      rw (one, among-same subparts p.after after xs from high h.2 is.2) refl

  weights-same : (xs : List ℕ) → AllByRecursion (IsIn t) xs → sum_by (weight_in t) xs ≡ sum_by (already_pairs s) xs
  weights-same [] h = refl
  weights-same (c ∷ xs) h =
      sum_by-cons (weight_in t) c xs ∙ (rw (filled.weights c h.0, weights-same xs h.1) refl) ∙ sym (sum_by-cons (already_pairs s) c xs)

  -- a class has its parent in the table where it has it in the situation
  parent-same : (c : ℕ) (xs : List ℕ) → IsIn t c → has_parent t xs c ≡ has_parent_with s xs c
  parent-same c xs is = ap (λ (p : Option ℕ). option_map_or (λ d. is_listed d xs) p true) (filled.parents c is) ∙ by_parent (s.parent_of c)
    where
      by_already : (p : ℕ) (b : Bool) → is_listed p s.already ≡ b → option_map_or (λ d. is_listed d xs) (cond b None (Some p)) true ≡ (is_listed p xs || b)
      by_already p true e = sym (or-true (is_listed p xs))
        where
          or-true : (a : Bool) → (a || true) ≡ true
          or-true true = refl
          or-true false = refl
      by_already p false e = sym (or-false (is_listed p xs))
        where
          or-false : (a : Bool) → (a || false) ≡ a
          or-false true = refl
          or-false false = refl

      by_parent : (p : Option ℕ) → option_map_or (λ d. is_listed d xs) (option_map_or (λ d. cond (is_listed d s.already) None (Some d)) p None) true
          ≡ option_map_or (λ d. is_listed d xs || is_listed d s.already) p true
      by_parent None = refl
      by_parent (Some p) = by_already p (is_listed p s.already) refl

-- the wanting ones, none of which lacks its parent, have it with each choice
wanting-have : (s : Situation) (xs : List ℕ) → lacks_none s ≡ true → list_all (has_parent_with s xs) s.wanting ≡ true
wanting-have s xs h = all_follow (has_parent_already s) (has_parent_with s xs) (λ c e. by_parent (s.parent_of c) e) s.wanting h
  where
    either : (a b : Bool) → b ≡ true → (a || b) ≡ true
    either true b e = refl
    either false b e = e

    by_parent : (p : Option ℕ) → option_map_or (λ d. is_listed d s.already) p true ≡ true → option_map_or (λ d. is_listed d xs || is_listed d s.already) p true ≡ true
    by_parent None e = refl
    by_parent (Some p) e = either (is_listed p xs) (is_listed p s.already) e

module _ (s : Situation) (t : Table) (left : List Bool) (filled : IsFilled s t) (seated : AreSeated s t left) where
  both-from : (choice xs : List ℕ) → AllByRecursion (IsIn t) xs → list_all (λ c. s.has_seat c && has_parent_with s choice c) xs ≡ true
      → (list_all (is_flagged t left) xs ≡ true) × (list_all (has_parent t choice) xs ≡ true)
  both-from choice [] h e = (refl, refl)
  both-from choice (c ∷ xs) h e =
      let parts = and_parts (s.has_seat c && has_parent_with s choice c) (list_all (λ d. s.has_seat d && has_parent_with s choice d) xs) e in
      let one = and_parts (s.has_seat c) (has_parent_with s choice c) parts.0 in
      let rest = both-from choice xs h.1 parts.1 in
      let seat : is_flagged t left c ≡ true = seated.each c h.0 ∙ one.0 in
      let parent : has_parent t choice c ≡ true = parent-same s t filled c choice h.0 ∙ one.1 in
      (rw (seat, rest.0) refl, rw (parent, rest.1) refl)

  both-to : (choice xs : List ℕ) → AllByRecursion (IsIn t) xs → list_all (is_flagged t left) xs ≡ true → list_all (has_parent t choice) xs ≡ true
      → list_all (λ c. s.has_seat c && has_parent_with s choice c) xs ≡ true
  both-to choice [] h e k = refl
  both-to choice (c ∷ xs) h e k =
      let flags = and_parts (is_flagged t left c) (list_all (is_flagged t left) xs) e in
      let parents = and_parts (has_parent t choice c) (list_all (has_parent t choice) xs) k in
      let seat : s.has_seat c ≡ true = sym (seated.each c h.0) ∙ flags.0 in
      let parent : has_parent_with s choice c ≡ true = sym (parent-same s t filled c choice h.0) ∙ parents.0 in
      rw (seat, parent, both-to choice xs h.1 flags.1 parents.1) refl

  module _ (apart : AreApart t.first t.subparts.now (t.first + t.count)) (lacks : lacks_none s ≡ true) where
    classes-in : (choice : List ℕ) → IsChoice t.subparts.now choice → AllByRecursion (IsIn t) choice
    classes-in choice is = in-table s t filled t.first (t.first + t.count) choice (omega arith) (omega arith) (choice-within t.subparts.now t.first (t.first + t.count) choice apart is)

    pairs-same : (choice : List ℕ) → IsChoice t.subparts.now choice → pairs_in t choice ≡ pairs_added s choice
    pairs-same choice is =
        rw (weights-same s t filled choice (classes-in choice is), among-same s t filled t.subparts.now t.first (t.first + t.count) choice (omega arith) (omega arith) apart is) refl

    -- an allowed choice of the situation is one of what is left in the table
    allowed-left : (choice : List ℕ) → IsChoice t.subparts.now choice → is_allowed s choice ≡ true → IsLeft t left choice × (Rattle.tt_least.specs.Judged.is_allowed t choice ≡ true)
    allowed-left choice is ok =
        let parts = and_parts (may_be_taken s choice) (list_all (has_parent_with s choice) s.wanting) ok in
        let both = both-from choice choice (classes-in choice is) parts.0 in
        (record { one_of_each = is; are_left = both.0 }, both.1)

    left-allowed : (choice : List ℕ) → IsLeft t left choice → Rattle.tt_least.specs.Judged.is_allowed t choice ≡ true → is_allowed s choice ≡ true
    left-allowed choice h ok =
        let may = both-to choice choice (classes-in choice h.one_of_each) h.are_left ok in
        rw (may, wanting-have s choice lacks) refl

    -- the least of the table is the first of the allowed choices that add the fewest pairs
    pub least-first : (choice : List ℕ) → IsLeast t left choice → IsFirstFewest s t.subparts.now choice
    least-first choice h = record {
      one_of_each = h.is_left.one_of_each;
      allowed = left-allowed choice h.is_left h.allowed;
      fewest = λ other is ok.
          let there = allowed-left other is ok in
          omega (arith, h.least other there.0 there.1, pairs-same choice h.is_left.one_of_each, pairs-same other is);
      first = λ other is ok le.
          let there = allowed-left other is ok in
          h.first other there.0 there.1 (omega (arith, le, pairs-same choice h.is_left.one_of_each, pairs-same other is));
    }

    -- and it adds as many pairs as it has in the table
    pub least-pairs : (choice : List ℕ) → IsLeast t left choice → pairs_in t choice ≡ pairs_added s choice
    least-pairs choice h = pairs-same choice h.is_left.one_of_each

    -- what has none within a number in the table adds none so few
    pub none-adds : (most : ℕ) → NoneWithin t left most → NoneAdds s t.subparts.now most
    none-adds most h = record {
      each = λ choice is ok.
          let there = allowed-left choice is ok in
          omega (arith, h.each choice there.0 there.1, pairs-same choice is);
    }

    -- the least of the table, if one is found, is the first of the allowed choices that add the fewest pairs
    pub found-first : (found : List ℕ) (result : Option ℕ) → IfSome result (λ pairs. IsLeast t left found) → IfSome result (λ pairs. IsFirstFewest s t.subparts.now found)
    found-first found result h = IfSome_then result h (λ pairs is. least-first found is)

    -- what is found adds as many pairs as it has in the table
    pub found-pairs : (found : List ℕ) (result : Option ℕ) → IfSome result (λ pairs. IsLeast t left found) → IfSome result (λ pairs. pairs ≡ pairs_in t found)
        → IfSome result (λ pairs. pairs ≡ pairs_added s found)
    found-pairs found None h counted = tt
    found-pairs found (Some pairs) h counted = counted ∙ least-pairs found h

-- what is written by place is so by class
by-class : {X : Type 0} (f g : ℕ → X) (first count c : ℕ) → first ≤ c → c < first + count → ((k : ℕ) → k < count → f k ≡ g (first + k)) → f (c - first) ≡ g c
by-class f g first count c low high h =
    let e : first + (c - first) ≡ c = omega arith in
    h (c - first) (omega arith) ∙ ap g e

-- a table whose lists are written by place is filled
pub table-filled : (s : Situation) (t : Table)
    → ((k : ℕ) → k < t.count → get_or t.weights.now k 0 ≡ already_pairs s (t.first + k))
    → ((k : ℕ) → k < t.count → get_or t.parents.now k None ≡ parent_needed s (t.first + k))
    → ((j k : ℕ) → j < t.count → k < t.count → get_or t.conflicts.now (j * t.size + k) false ≡ either_conflicts s (t.first + j) (t.first + k))
    → IsFilled s t
table-filled s t weights parents conflicts = record {
  weights = λ c is. by-class (λ k. get_or t.weights.now k 0) (already_pairs s) t.first t.count c is.0 is.1 weights;
  parents = λ c is. by-class (λ k. get_or t.parents.now k None) (parent_needed s) t.first t.count c is.0 is.1 parents;
  conflicts = λ c d one other. by-class (λ j. get_or t.conflicts.now (j * t.size + (d - t.first)) false) (λ e. either_conflicts s e d) t.first t.count c one.0 one.1
      (λ j below. by-class (λ k. get_or t.conflicts.now (j * t.size + k) false) (either_conflicts s (t.first + j)) t.first t.count d other.0 other.1 (λ k few. conflicts j k below few));
}

-- the same of a table that borrows such lists
pub borrowed-filled : (s : Situation) (t : Table) (weights : List ℕ) (parents : List (Option ℕ)) (conflicts : List Bool)
    → t.weights.now ≡ weights → t.parents.now ≡ parents → t.conflicts.now ≡ conflicts → t.size ≡ length weights
    → ((k : ℕ) → k < t.count → get_or weights k 0 ≡ already_pairs s (t.first + k))
    → ((k : ℕ) → k < t.count → get_or parents k None ≡ parent_needed s (t.first + k))
    → ((j k : ℕ) → j < t.count → k < t.count → get_or conflicts (j * length weights + k) false ≡ either_conflicts s (t.first + j) (t.first + k))
    → IsFilled s t
borrowed-filled s t weights parents conflicts same_weights same_parents same_conflicts size by_weight by_parent by_conflict =
    table-filled s t (λ k few. rw same_weights (by_weight k few)) (λ k few. rw same_parents (by_parent k few))
    (λ j k below few. rw (same_conflicts, size) (by_conflict j k below few))

-- flags that are written by place are those of the classes that have a seat
pub flags-seated : (s : Situation) (t : Table) (left : List Bool) → ((k : ℕ) → k < t.count → get_or left k false ≡ s.has_seat (t.first + k)) → AreSeated s t left
flags-seated s t left seats = record { each = λ c is. by-class (λ k. get_or left k false) s.has_seat t.first t.count c is.0 is.1 seats }

-- subparts that follow one another end no earlier than they begin
pub apart-ascends : (first after : ℕ) (subparts : List Span) → AreApart first subparts after → first ≤ after
apart-ascends first after [] h = h
apart-ascends first after (s ∷ subparts) h = omega (arith, h.0, h.1, apart-ascends s.after after subparts h.2)
