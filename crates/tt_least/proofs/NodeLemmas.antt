-- The first node of a search, and the node that comes from another one where a class is chosen.
use Rattle.std.proofs.Common.{◌≡◌, ◌≢◌, ◌∙◌, ℕ, zero, suc, ◌+◌, ◌-◌, ◌<◌, ◌≤◌, Bool, true, false, cond, ◌&&◌, List, [], ◌∷◌, Option, Some, None, length, take, arith, refl, sym, inl, inr}
use Rattle.std.specs.Prelude.{⊤, IfSome, count_by, slice_get, slice_index_or, slice_set}
use Rattle.std.specs.Option.{is_none}
use Rattle.std.proofs.lemmas.Bool.{cases_eq, cases_Bool, and_from, and_left, and_parts, and_right, both_ways}
use Rattle.std.proofs.lemmas.List.{get_or-set_same, get_or-set_other}
use Rattle.std.proofs.lemmas.List.Elements.{All-from_get_or}
use Rattle.std.proofs.lemmas.List.Sums.{sum_by-cons, AllPass-from_list_all, list_all-from_AllPass}
use Rattle.std.proofs.lemmas.Option.{MatchOption-at_some, same_Some, slice_get_within}
use Rattle.tt_problem.specs.declared.parts.Span.{Span}
use Rattle.tt_problem.specs.Spans.{is_in}
use Rattle.tt_least.specs.declared.table.Table.{Table}
use Rattle.tt_least.specs.declared.level.Level.{Level}
use Rattle.tt_least.specs.Choices.{IsChoice}
use Rattle.tt_least.specs.Judged.{IsIn, IsTable, conflict_in, is_flagged, weight_in}
use Rattle.tt_least.specs.Nodes.{HasPlaces, IsChild, IsLeft, IsNode, IsOf, count_to_come, pair_to_come, weight_at}
use Rattle.tt_least.proofs.ChoiceLemmas.{choice-in, choice-long, choice-only, span-within, spans-alone, within-span}
use Rattle.tt_least.proofs.OptionLemmas.{if-some}
use Rattle.tt_least.proofs.PairLemmas.{IsMoved, moved-le, pairs-le, sum-le}

-- a class of a span of the table is one of the table's
pub class-in : (t : Table) (k c : ℕ) (s : Span) → IsTable t → slice_get t.subparts.now k ≡ Some s → s.first ≤ c → c < s.after → IsIn t c
class-in t k c s table at from below =
    let bounds = span-within t.first (t.first + t.count) t.subparts.now k s table.apart at in
    (omega (arith, bounds.0), omega (arith, bounds.2))

-- a test and two that are passed
both-pass : (a b c : Bool) → b ≡ true → c ≡ true → (a && (b && c)) ≡ a
both-pass true b c p q = rw (p, q) refl
both-pass false b c p q = refl

-- the order of two tests that must both be passed makes no difference
turned-pair : (a b x y : Bool) → a ≡ b → (a && (x && y)) ≡ (b && (y && x))
turned-pair a b true true same = rw same refl
turned-pair a b true false same = rw same refl
turned-pair a b false true same = rw same refl
turned-pair a b false false same = rw same refl

-- the node in which no class is chosen and each class costs what it costs by itself
pub node-start : (t : Table) (l : Level) → IsTable t → ((k : ℕ) → slice_index_or l.chosen.items k None ≡ None)
    → ((c : ℕ) → IsIn t c → is_flagged t l.to_come.items c ≡ true) → l.weights.items ≡ t.weights.now → l.pairs ≡ 0 → IsNode t l
node-start t l table none to_come weights pairs = record {
  chosen = λ k c is. absurd (cc (none k, is));
  to_come = λ k c open'. if-some (slice_get t.subparts.now k) (λ s. s.first ≤ c → c < s.after → is_flagged t l.to_come.items c ≡ true)
      (λ s at from below. to_come c (class-in t k c s table at from below));
  counted = λ choice of.
      let each = choice-in t choice table of.is_left.one_of_each in
      let weigh = sum-le (IsIn t) (weight_at t l) (weight_in t) (λ c in_table. same c) choice each in
      let related = pairs-le (IsIn t) (pair_to_come t l) (conflict_in t) (λ c d in_table other both. (and_parts (conflict_in t c d) (is_flagged t l.to_come.items c && is_flagged t l.to_come.items d) both).0) choice each in
      omega arith;
}
  where
    same : (c : ℕ) → weight_at t l c ≤ weight_in t c
    same c = rw weights (omega arith)

-- the flags and weights that make a node the child of another one: the flags are cleared of the span, and the class is left
pub child-made : (t : Table) (l child : Level) (k : ℕ) (s : Span) (c : ℕ) (left to_come row : List Bool) → is_in c s ≡ true → IsIn t c
    → length left ≡ t.size → length row ≡ t.size → t.count ≤ t.size
    → ((d : ℕ) → is_in d s ≡ true → is_flagged t left d ≡ false)
    → ((d : ℕ) → t.first ≤ d → is_in d s ≡ false → is_flagged t left d ≡ is_flagged t l.left.items d)
    → ((d : ℕ) → is_in d s ≡ true → is_flagged t to_come d ≡ false)
    → ((d : ℕ) → t.first ≤ d → is_in d s ≡ false → is_flagged t to_come d ≡ is_flagged t l.to_come.items d)
    → ((d : ℕ) → IsIn t d → is_flagged t row d ≡ conflict_in t c d)
    → child.left.items ≡ slice_set left (c - t.first) true → child.to_come.items ≡ to_come
    → ((j : ℕ) → j < length row → slice_index_or child.weights.items j 0 ≤ cond (slice_index_or to_come j false) (slice_index_or l.weights.items j 0 + cond (slice_index_or row j false) 1 0) 0)
    → child.chosen.items ≡ slice_set l.chosen.items k (Some c) → child.pairs ≤ l.pairs + weight_at t l c → IsChild t l k s c child
child-made t l child k s c left to_come row inside of_table long rows few none others none_to_come others_to_come conflicts left_is to_come_is weigh chosen pairs = record {
  one = let small : c - t.first < length left = omega (arith, of_table.0, of_table.1) in rw left_is (get_or-set_same left (c - t.first) true false small);
  others = λ d in_table other inner. rw left_is (get_or-set_other left (c - t.first) (d - t.first) true false (apart d in_table other) ∙ none d inner);
  rest = λ d in_table outside. rw left_is (get_or-set_other left (c - t.first) (d - t.first) true false (apart d in_table (alone d outside)) ∙ others d in_table.0 outside);
  gone = λ d in_table inner. rw to_come_is (none_to_come d inner);
  to_come = λ d in_table outside. rw to_come_is (others_to_come d in_table.0 outside);
  weights = λ d in_table.
      let small : d - t.first < length row = omega (arith, in_table.0, in_table.1) in
      rw (to_come_is, ← conflicts d in_table) (weigh (d - t.first) small);
  chosen = chosen;
  pairs = pairs;
}
  where
    apart : (d : ℕ) → IsIn t d → d ≢ c → d - t.first ≢ c - t.first
    apart d in_table other = λ same. other (omega (arith, in_table.0, of_table.0, same))

    alone : (d : ℕ) → is_in d s ≡ false → d ≢ c
    alone d outside = λ same. both_ways (is_in c s) (rw same at outside) inside

-- an item that is none is counted no more where there is one
count-filled : (n k : ℕ) (c : ℕ) (xs : List (Option ℕ)) → k < n → k < length xs → slice_index_or xs k None ≡ None
    → suc (count_by is_none (take n (slice_set xs k (Some c)))) ≡ count_by is_none (take n xs)
count-filled zero k c xs less below none = absurd (omega arith)
count-filled (suc n) k c [] less below none = absurd (omega arith)
count-filled (suc n) zero c (x ∷ xs) less below none =
    let one : ◌≡◌ {A = ℕ} (cond (is_none x) 1 0) 1 = rw none refl in
    omega (arith, sum_by-cons (λ (o : Option ℕ). cond (is_none o) 1 0) x (take n xs), sum_by-cons (λ (o : Option ℕ). cond (is_none o) 1 0) (Some c) (take n xs), one)
count-filled (suc n) (suc k) c (x ∷ xs) less below none =
    omega (
      arith,
      sum_by-cons (λ (o : Option ℕ). cond (is_none o) 1 0) x (take n xs),
      sum_by-cons (λ (o : Option ℕ). cond (is_none o) 1 0) x (take n (slice_set xs k (Some c))),
      count-filled n k c xs (omega arith) (omega arith) none,
    )

module _ (t : Table) (l child : Level) (k : ℕ) (s : Span) (c : ℕ) (table : IsTable t) (places : HasPlaces t.size l) (child_places : HasPlaces t.size child)
    (at : slice_get t.subparts.now k ≡ Some s) (open' : slice_index_or l.chosen.items k None ≡ None) (from : s.first ≤ c) (below : c < s.after)
    (left : is_flagged t l.left.items c ≡ true) (is_child : IsChild t l k s c child) where
  chosen-here : slice_index_or child.chosen.items k None ≡ Some c
  chosen-here =
      let within = slice_get_within t.subparts.now k s at in
      rw is_child.chosen (get_or-set_same l.chosen.items k (Some c) None (omega (arith, table.few, places.chosen)))

  chosen-elsewhere : (j : ℕ) → j ≢ k → slice_index_or child.chosen.items j None ≡ slice_index_or l.chosen.items j None
  chosen-elsewhere j apart = rw is_child.chosen (get_or-set_other l.chosen.items k j (Some c) None apart)

  was-left : (d : ℕ) → IsIn t d → is_flagged t child.left.items d ≡ true → is_flagged t l.left.items d ≡ true
  was-left d in_table now =
      elim (cases_Bool (is_in d s)) [
        | inl inside ↦ elim (cases_eq d c) [
          | inl same ↦ rw same left
          | inr other ↦ absurd (both_ways (is_flagged t child.left.items d) (is_child.others d in_table other inside) now)
        ]
        | inr outside ↦ sym (is_child.rest d in_table outside) ∙ now
      ]

  -- what is left of the child was left of the node
  pub child-within : (choice : List ℕ) → IsLeft t child.left.items choice → IsLeft t l.left.items choice
  child-within choice is = record {
    one_of_each = is.one_of_each;
    are_left =
        let each = choice-in t choice table is.one_of_each in
        let now = AllPass-from_list_all (is_flagged t child.left.items) choice is.are_left in
        list_all-from_AllPass (is_flagged t l.left.items) choice (λ j d less. was-left (slice_index_or choice j d) (each j d less) (now j d less));
  }

  -- a choice of the child is one of the node
  child-of : (choice : List ℕ) → IsOf t child choice → IsOf t l choice
  child-of choice of = record {
    is_left = child-within choice of.is_left;
    chosen = λ j less. elim (cases_eq j k) [
      | inl same ↦ rw (same, open') tt
      | inr apart ↦ rw (chosen-elsewhere j apart) at (of.chosen j less)
    ];
  }

  still-left : (choice : List ℕ) → IsChoice t.subparts.now choice → slice_index_or choice k 0 ≡ c → (j : ℕ) → j < length choice
      → is_flagged t l.left.items (slice_index_or choice j 0) ≡ true → is_flagged t child.left.items (slice_index_or choice j 0) ≡ true
  still-left choice one is j less was =
      let in_table = choice-in t choice table one j 0 less in
      elim (cases_Bool (is_in (slice_index_or choice j 0) s)) [
        | inl inside ↦
            let same : j ≡ k = choice-only t.first (t.first + t.count) t.subparts.now choice k j s table.apart one at less inside in
            let here : slice_index_or choice j 0 ≡ c = rw same is in
            rw here is_child.one
        | inr outside ↦ is_child.rest (slice_index_or choice j 0) in_table outside ∙ was
      ]

  -- a choice of the node with the class is one of the child's
  pub child-split : (choice : List ℕ) → IsOf t l choice → slice_index_or choice k 0 ≡ c → IsOf t child choice
  child-split choice of is = record {
    is_left = record {
      one_of_each = of.is_left.one_of_each;
      are_left =
          let was = AllPass-from_list_all (is_flagged t l.left.items) choice of.is_left.are_left in
          list_all-from_AllPass (is_flagged t child.left.items) choice
          (All-from_get_or (λ d. is_flagged t child.left.items d ≡ true) choice 0 (λ j less. still-left choice of.is_left.one_of_each is j less (was j 0 less)));
    };
    chosen = λ j less. elim (cases_eq j k) [
      | inl same ↦ rw (same, chosen-here) is
      | inr apart ↦ rw (chosen-elsewhere j apart) (of.chosen j less)
    ];
  }

  -- one subpart fewer is to come
  pub count-child : suc (count_to_come t child) ≡ count_to_come t l
  count-child =
      let within = slice_get_within t.subparts.now k s at in
      rw is_child.chosen (count-filled (length t.subparts.now) k c l.chosen.items within (omega (arith, table.few, places.chosen)) open')

  inside : is_in c s ≡ true
  inside = within-span c s from below

  in_table : IsIn t c
  in_table = class-in t k c s table at from below

  child-chosen : IsNode t l → (j d : ℕ) → slice_index_or child.chosen.items j None ≡ Some d → IfSome (slice_get t.subparts.now j) (λ r. (r.first ≤ d) × (d < r.after))
  child-chosen node j d is =
      elim (cases_eq j k) [
        | inl same ↦
            let here : slice_index_or child.chosen.items k None ≡ Some d = rw same at is in
            let value : c ≡ d = same_Some c d (sym chosen-here ∙ here) in
            rw (same, at, ← value) (from, below)
        | inr apart ↦ node.chosen j d (sym (chosen-elsewhere j apart) ∙ is)
      ]

  child-to_come : IsNode t l → (j d : ℕ) → slice_index_or child.chosen.items j None ≡ None
      → IfSome (slice_get t.subparts.now j) (λ r. r.first ≤ d → d < r.after → is_flagged t child.to_come.items d ≡ true)
  child-to_come node j d is =
      if-some (slice_get t.subparts.now j) (λ r. r.first ≤ d → d < r.after → is_flagged t child.to_come.items d ≡ true)
      (λ r there first last.
      let apart : j ≢ k = λ same. absurd (cc (chosen-here, is, same)) in
      let was = MatchOption-at_some ⊤ (λ r. r.first ≤ d → d < r.after → is_flagged t l.to_come.items d ≡ true) r there (node.to_come j d (sym (chosen-elsewhere j apart) ∙ is)) first last in
      let outside : is_in d s ≡ false = spans-alone t.first (t.first + t.count) t.subparts.now j k d r s table.apart there at apart (within-span d r first last) in
      is_child.to_come d (class-in t j d r table there first last) outside ∙ was)

  was-to_come : (d : ℕ) → IsIn t d → is_flagged t child.to_come.items d ≡ true → is_flagged t l.to_come.items d ≡ true
  was-to_come d of_table now =
      elim (cases_Bool (is_in d s)) [
        | inl inner ↦ absurd (both_ways (is_flagged t child.to_come.items d) (is_child.gone d of_table inner) now)
        | inr outside ↦ sym (is_child.to_come d of_table outside) ∙ now
      ]

  heavier : IsNode t l → (d : ℕ) → IsIn t d → weight_at t child d ≤ weight_at t l d + cond (pair_to_come t l c d) 1 0
  heavier node d of_table =
      let most = is_child.weights d of_table in
      elim (cases_Bool (is_flagged t child.to_come.items d)) [
        | inl now ↦
            let here : is_flagged t l.to_come.items c ≡ true =
            MatchOption-at_some ⊤ (λ r. r.first ≤ c → c < r.after → is_flagged t l.to_come.items c ≡ true) s at (node.to_come k c open') from below in
            let both = both-pass (conflict_in t c d) (is_flagged t l.to_come.items c) (is_flagged t l.to_come.items d) here (was-to_come d of_table now) in
            let more : weight_at t child d ≤ weight_at t l d + cond (conflict_in t c d) 1 0 = rw now at most in
            rw both more
        | inr over ↦ let nothing = rw over at most in omega arith
      ]

  fewer : (x y : ℕ) → IsIn t x → IsIn t y → pair_to_come t child x y ≡ true → pair_to_come t l x y ≡ true
  fewer x y of_x of_y pair =
      let parts = and_parts (conflict_in t x y) (is_flagged t child.to_come.items x && is_flagged t child.to_come.items y) pair in
      let two = and_parts (is_flagged t child.to_come.items x) (is_flagged t child.to_come.items y) parts.1 in
      and_from (conflict_in t x y) (is_flagged t l.to_come.items x && is_flagged t l.to_come.items y) parts.0
      (and_from (is_flagged t l.to_come.items x) (is_flagged t l.to_come.items y) (was-to_come x of_x two.0) (was-to_come y of_y two.1))

  child-moved : IsNode t l → IsMoved (IsIn t) c (weight_at t l) (weight_at t child) (pair_to_come t l) (pair_to_come t child)
  child-moved node = record {
    none = let gone = is_child.gone c in_table inside in let most = rw gone at (is_child.weights c in_table) in omega arith;
    heavier = heavier node;
    turned = λ d of_table.
        turned-pair (conflict_in t c d) (conflict_in t d c) (is_flagged t l.to_come.items c) (is_flagged t l.to_come.items d) (table.both_ways.both_ways c d in_table of_table);
    fewer = fewer;
    before = λ d of_table. and_right (conflict_in t d c) (is_flagged t child.to_come.items d && is_flagged t child.to_come.items c)
        (and_right (is_flagged t child.to_come.items d) (is_flagged t child.to_come.items c) (is_child.gone c in_table inside));
    after = λ d of_table. and_right (conflict_in t c d) (is_flagged t child.to_come.items c && is_flagged t child.to_come.items d)
        (and_left (is_flagged t child.to_come.items c) (is_flagged t child.to_come.items d) (is_child.gone c in_table inside));
  }

-- a node keeps the promise of one once a class of a subpart still to come, that is left, is chosen
pub child-node : (t : Table) (l child : Level) (k : ℕ) (s : Span) (c : ℕ) → IsTable t → HasPlaces t.size l → HasPlaces t.size child → IsNode t l
    → slice_get t.subparts.now k ≡ Some s → slice_index_or l.chosen.items k None ≡ None → s.first ≤ c → c < s.after
    → is_flagged t l.left.items c ≡ true → IsChild t l k s c child → IsNode t child
child-node t l child k s c table places child_places node at open' from below left is_child = record {
  chosen = child-chosen t l child k s c table places child_places at open' from below left is_child node;
  to_come = child-to_come t l child k s c table places child_places at open' from below left is_child node;
  counted = λ choice of.
      let each = choice-in t choice table of.is_left.one_of_each in
      let long = choice-long t.subparts.now choice of.is_left.one_of_each in
      let within = slice_get_within t.subparts.now k s at in
      let here = chosen-here t l child k s c table places child_places at open' from below left is_child in
      let is : slice_index_or choice k 0 ≡ c = MatchOption-at_some ⊤ (λ d. slice_index_or choice k 0 ≡ d) c here (of.chosen k within) in
      let before = node.counted choice (child-of t l child k s c table places child_places at open' from below left is_child choice of) in
      let moved = moved-le (IsIn t) c (weight_at t l) (weight_at t child) (pair_to_come t l) (pair_to_come t child)
      (child-moved t l child k s c table places child_places at open' from below left is_child node) choice k each (omega arith) is in
      omega (arith, is_child.pairs);
}
