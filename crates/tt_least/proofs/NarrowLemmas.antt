-- Nodes with fewer classes left.
use Rattle.std.proofs.Common.{◌≡◌, ◌≢◌, ◌∙◌, ℕ, zero, suc, ◌+◌, ◌-◌, ◌<◌, ◌≤◌, Bool, true, false, List, [], ◌∷◌, None, Some, length, arith, refl, sym, ap, subst, inl, inr, get_or-set_other, length-set}
use Rattle.std.specs.Prelude.{All, slice_get, slice_index_or, slice_set}
use Rattle.std.specs.List.{list_all}
use Rattle.std.proofs.lemmas.Bool.{and_parts, cases_Bool, cases_eq}
use Rattle.std.proofs.lemmas.Bool.Decides.{nat_tests}
use Rattle.std.proofs.lemmas.Option.{IfSome_then}
use Rattle.tt_base.specs.Lists.{is_listed}
use Rattle.tt_problem.specs.declared.parts.Span.{Span}
use Rattle.tt_problem.specs.Spans.{is_in}
use Rattle.tt_least.specs.declared.groups.Groups.{Groups}
use Rattle.tt_least.specs.declared.level.Level.{Level}
use Rattle.tt_least.specs.declared.narrow.Bound.{Bound}
use Rattle.tt_least.specs.declared.table.Table.{Table}
use Rattle.tt_least.specs.Judged.{IsIn, IsTable, has_parent, is_allowed, is_flagged, pairs_in, parent_in}
use Rattle.tt_least.specs.Nodes.{HasPlaces, IsLeft, IsNode, IsOf}
use Rattle.tt_least.specs.Prices.{AreGroups, IsBound, priced_at}
use Rattle.tt_least.specs.Results.{IsNarrowed}
use Rattle.tt_least.proofs.BoundLemmas.{dear}
use Rattle.tt_least.proofs.ChoiceLemmas.{choice-in, choice-only, within-span}

-- a node of which nothing is taken out is narrowed
pub narrowed-refl : (t : Table) (limit : ℕ) (l : Level) → IsNarrowed t limit l l
narrowed-refl t limit l = record { same = refl; places = refl; within = λ choice h. h; vain = λ h. h }

-- a node that is narrowed twice is narrowed
pub narrowed-trans : (t : Table) (limit : ℕ) (one two three : Level) → IsNarrowed t limit one two → IsNarrowed t limit two three → IsNarrowed t limit one three
narrowed-trans t limit one two three first second = record {
  same = second.same ∙ ap (λ (l : Level). record l { left = three.left }) first.same;
  places = second.places ∙ first.places;
  within = λ choice h. first.within choice (second.within choice h);
  vain = λ h. first.vain (second.vain h);
}

-- a choice of a narrowed node is one of the node before
pub narrowed-within : (t : Table) (limit : ℕ) (old new : Level) → IsNarrowed t limit old new → (choice : List ℕ) → IsOf t new choice → IsOf t old choice
narrowed-within t limit old new narrowed choice h =
    let same : IsOf t (record old { left = new.left }) choice = subst (λ (l : Level). IsOf t l choice) narrowed.same h in
    record { is_left = narrowed.within choice h.is_left; chosen = same.chosen }

-- a narrowed node is a node
pub node-narrowed : (t : Table) (limit : ℕ) (old new : Level) → IsNarrowed t limit old new → IsNode t old → IsNode t new
node-narrowed t limit old new narrowed node =
    let fewer : Level = record old { left = new.left } in
    let still : IsNode t fewer = record {
      chosen = node.chosen;
      to_come = node.to_come;
      counted = λ choice h. node.counted choice (record { is_left = narrowed.within choice h.is_left; chosen = h.chosen });
    } in
    subst (λ (l : Level). IsNode t l) (sym narrowed.same) still

-- a narrowed node has a place for each class and each subpart, where the node before has
pub places-narrowed : (t : Table) (limit size : ℕ) (old new : Level) → IsNarrowed t limit old new → HasPlaces size old → HasPlaces size new
places-narrowed t limit size old new narrowed places = record {
  left = narrowed.places ∙ places.left;
  to_come = ap (λ (l : Level). length l.to_come.items) narrowed.same ∙ places.to_come;
  weights = ap (λ (l : Level). length l.weights.items) narrowed.same ∙ places.weights;
  chosen = ap (λ (l : Level). length l.chosen.items) narrowed.same ∙ places.chosen;
}

-- a flag that is set after one was taken out was set before
flag-kept : (flags : List Bool) (k j : ℕ) → slice_index_or (slice_set flags k false) j false ≡ true → slice_index_or flags j false ≡ true
flag-kept [] k j h = h
flag-kept (f ∷ flags) zero zero h = absurd (cc h)
flag-kept (f ∷ flags) zero (suc j) h = h
flag-kept (f ∷ flags) (suc k) zero h = h
flag-kept (f ∷ flags) (suc k) (suc j) h = flag-kept flags k j h

-- a test passes where each item that passes it passes another one
all-weaker : (p q : ℕ → Bool) → ((n : ℕ) → p n ≡ true → q n ≡ true) → (list : List ℕ) → list_all p list ≡ true → list_all q list ≡ true
all-weaker p q weaker [] h = refl
all-weaker p q weaker (n ∷ list) h =
    let two = and_parts (p n) (list_all p list) h in
    rw (weaker n two.0) (all-weaker p q weaker list two.1)

-- a test that all numbers of a list pass is passed by one that is listed
listed-passes : (test : ℕ → Bool) (n : ℕ) (list : List ℕ) → list_all test list ≡ true → is_listed n list ≡ true → test n ≡ true
listed-passes test n [] all listed = absurd (cc listed)
listed-passes test n (m ∷ list) all listed =
    let two = and_parts (test m) (list_all test list) all in
    elim (cases_eq n m) [
      | inl same ↦ rw same two.0
      | inr apart ↦
          let later : is_listed n list ≡ true = grind (arith, nat_tests) in
          listed-passes test n list two.1 later
    ]

-- a number that is listed has a place
listed-place : (n : ℕ) (list : List ℕ) → is_listed n list ≡ true → (j : ℕ) × (j < length list) × (slice_index_or list j 0 ≡ n)
listed-place n [] listed = absurd (cc listed)
listed-place n (m ∷ list) listed =
    elim (cases_eq n m) [
      | inl same ↦ (0, omega arith, sym same)
      | inr apart ↦
          let later : is_listed n list ≡ true = grind (arith, nat_tests) in
          let place = listed-place n list later in
          (suc place.0, omega (arith, place.1), place.2)
    ]

-- classes that are left are left after another one was taken out
left-without : (t : Table) (left : List Bool) (c : ℕ) (choice : List ℕ) → IsIn t c → All (IsIn t) choice → is_listed c choice ≡ false → list_all (is_flagged t left) choice ≡ true
    → list_all (is_flagged t (slice_set left (c - t.first) false)) choice ≡ true
left-without t left c [] here inside none all = refl
left-without t left c (d ∷ choice) here inside none all =
    let two = and_parts (is_flagged t left d) (list_all (is_flagged t left) choice) all in
    let there : IsIn t d = inside 0 0 (omega arith) in
    let apart : d ≢ c = λ same. grind (arith, nat_tests) in
    let place : (d - t.first) ≢ (c - t.first) = λ same. apart (omega (arith, here.0, there.0)) in
    let later : is_listed c choice ≡ false = grind (arith, nat_tests) in
    let still : is_flagged t (slice_set left (c - t.first) false) d ≡ true = rw (get_or-set_other left (c - t.first) (d - t.first) false false place) two.0 in
    rw still (left-without t left c choice here (λ k e lt. inside (suc k) e (omega arith)) later two.1)

-- the class is in no allowed choice of the node with so few pairs
pub record IsUseless (t : Table) (l : Level) (limit c : ℕ) : Type 0 where
  pub each : (choice : List ℕ) → IsOf t l choice → is_allowed t choice ≡ true → is_listed c choice ≡ true → limit < pairs_in t choice

-- a node of which such a class is taken out is narrowed
pub narrowed-out : (t : Table) (limit c : ℕ) (old new : Level) → IsTable t → IsIn t c → IsUseless t old limit c
    → new ≡ record old { left = new.left } → new.left.items ≡ slice_set old.left.items (c - t.first) false → IsNarrowed t limit old new
narrowed-out t limit c old new table here useless same out = record {
  same = same;
  places = rw out (length-set old.left.items (c - t.first) false);
  within = λ choice h. record {
    one_of_each = h.one_of_each;
    are_left = all-weaker (is_flagged t new.left.items) (is_flagged t old.left.items) (λ d flagged. flag-kept old.left.items (c - t.first) (d - t.first) (rw out at flagged)) choice h.are_left;
  };
  vain = λ vain. record {
    each = λ choice h allowed. elim (cases_Bool (is_listed c choice)) [
      | inl listed ↦ useless.each choice h allowed listed
      | inr free ↦
          let still = left-without t old.left.items c choice here (choice-in t choice table h.is_left.one_of_each) free h.is_left.are_left in
          let kept : list_all (is_flagged t new.left.items) choice ≡ true = rw out still in
          let chosen : IsOf t (record old { left = new.left }) choice = record { is_left = record { one_of_each = h.is_left.one_of_each; are_left = kept }; chosen = h.chosen } in
          vain.each choice (subst (λ (l : Level). IsOf t l choice) (sym same) chosen) allowed
    ];
  };
}

-- what the choices cost at least they do once a class is taken out
pub bound-out : (t : Table) (g : Groups) (c : ℕ) (old new : Level) (b : Bound)
    → new ≡ record old { left = new.left } → new.left.items ≡ slice_set old.left.items (c - t.first) false → IsBound t g old b → IsBound t g new b
bound-out t g c old new b same out bound =
    let fewer : Level = record old { left = new.left } in
    let still : IsBound t g fewer b = record {
      costs = record {
        long = bound.costs.long;
        each = λ k d come. IfSome_then (slice_get t.subparts.now k) (bound.costs.each k d come) (λ s h from below flagged. h from below (flag-kept old.left.items (c - t.first) (d - t.first) (rw out at flagged)));
      };
      leasts = record {
        long = bound.leasts.long;
        each = λ k d. IfSome_then (slice_get t.subparts.now k) (bound.leasts.each k d) (λ s h from below flagged. h from below (flag-kept old.left.items (c - t.first) (d - t.first) (rw out at flagged)));
      };
      sum = bound.sum;
      owed = bound.owed;
    } in
    subst (λ (l : Level). IsBound t g l b) (sym same) still

-- a class whose parent isn't left is in no allowed choice
pub orphan : (t : Table) (l : Level) (c p : ℕ) → IsTable t → parent_in t c ≡ Some p → (IsIn t p → is_flagged t l.left.items p ≡ false) → (choice : List ℕ) → IsOf t l choice → is_allowed t choice ≡ true
    → is_listed c choice ≡ false
orphan t l c p table parent gone choice h allowed =
    elim (cases_Bool (is_listed c choice)) [
      | inl listed ↦
          let passes = listed-passes (has_parent t choice) c choice allowed listed in
          let with_parent : is_listed p choice ≡ true = rw parent at passes in
          let left = listed-passes (is_flagged t l.left.items) p choice h.is_left.are_left with_parent in
          let place = listed-place p choice with_parent in
          let inside = choice-in t choice table h.is_left.one_of_each place.0 0 place.1 in
          let here : IsIn t p = rw place.2 at inside in
          let never : true ≡ false = sym left ∙ gone here in
          absurd (cc never)
      | inr free ↦ free
    ]

-- a class of a subpart that a choice has is the one at that place
pub listed-at : (t : Table) (left : List Bool) (choice : List ℕ) (k c : ℕ) (s : Span) → IsTable t → IsLeft t left choice → slice_get t.subparts.now k ≡ Some s → is_in c s ≡ true → is_listed c choice ≡ true
    → slice_index_or choice k 0 ≡ c
listed-at t left choice k c s table h at inside listed =
    let place = listed-place c choice listed in
    let there : is_in (slice_index_or choice place.0 0) s ≡ true = rw place.2 inside in
    let only = choice-only t.first (t.first + t.count) t.subparts.now choice k place.0 s table.apart h.one_of_each at place.1 there in
    rw only at place.2

-- a class that costs so much more than the cheapest of its subpart that the bound is above the limit is in no choice that is sought
pub too-dear : (t : Table) (g : Groups) (l : Level) (b : Bound) (limit k c : ℕ) (s : Span) → IsTable t → HasPlaces t.size l → AreGroups t g → IsNode t l → IsBound t g l b
    → b.sum ≤ limit + b.owed → slice_get t.subparts.now k ≡ Some s → slice_index_or l.chosen.items k None ≡ None → s.first ≤ c → c < s.after
    → slice_index_or b.leasts.now k 0 + (limit + b.owed - b.sum) < slice_index_or b.costs.now (c - t.first) 0 → IsUseless t l limit c
too-dear t g l b limit k c s table places groups node bound within there come from below more = record {
  each = λ choice h allowed listed.
      let flagged : is_flagged t l.left.items c ≡ true = listed-passes (is_flagged t l.left.items) c choice h.is_left.are_left listed in
      let costs = rw there at (bound.costs.each k c come) in
      let cost : slice_index_or b.costs.now (c - t.first) 0 ≤ priced_at t g l c = costs from below flagged in
      let above : limit < ((b.sum - slice_index_or b.leasts.now k 0) + priced_at t g l c) - b.owed = omega (arith, cost, more, within) in
      dear t g l b limit k c s table places groups node bound there above choice h (listed-at t l.left.items choice k c s table h.is_left there (within-span c s from below) listed);
}
