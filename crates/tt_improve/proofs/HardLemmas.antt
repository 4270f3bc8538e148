-- A class that moves to a value that isn't blocked and pushes no class out: the hard conflicts don't rise.
use Rattle.std.proofs.Common.{◌≡◌, ◌∙◌, ℕ, ◌+◌, ◌<◌, ◌≤◌, Bool, true, false, cond, List, [], ◌∷◌, Option, Some, None, length, get_or, take, drop, map, count_by, sum_by, zero, suc, nat_eq, refl, sym, ap, arith, inl, inr}
use Rattle.std.specs.Prelude.{◌&&◌, ◌||◌, ◌==◌, slice_set, slice_get, if◌then◌else◌}
use Rattle.std.specs.Option.{option_map, option_map_or}
use Rattle.std.specs.List.{AllByRecursion, IsDistinct, list_any, cons_option}
use Rattle.std.proofs.lemmas.Bool.{cases_eq, or_parts, eq-eqb, ne_eqb}
use Rattle.std.proofs.lemmas.List.{get_or-set_same, get_or-set_other, take-map, drop-map, length-map}
use Rattle.std.proofs.lemmas.List.Elements.{recursion_from_All}
use Rattle.std.proofs.lemmas.List.Sums.{sum_by-cons}
use Rattle.tt_base.specs.Lists.{is_listed}
use Rattle.tt_bits.specs.declared.times.Closure.{Closure}
use Rattle.tt_bits.specs.declared.times.Spot.{Spot}
use Rattle.tt_bits.specs.declared.pairs.PairKind.{PairKind}
use Rattle.tt_bits.specs.Spots.{spot_at, placed, IsEmptyAt}
use Rattle.tt_bits.proofs.SpotLemmas.{set-set, emptied, set_empty, set_back, count_by-placed}
use Rattle.tt_pair.specs.ViolatedPairs.{is_violated, violated_pairs, violated_with}
use Rattle.tt_pair.specs.PairLaws.{violated_pairs-set}
use Rattle.tt_problem.specs.declared.parts.DistKind.{DistKind}
use Rattle.tt_problem.specs.declared.parts.DistKind.TheVariants.{Pair, MaxDays, MaxWeeks, MaxDayLoad, MaxBreaks, MaxBlock}
use Rattle.tt_problem.specs.declared.parts.Rule.{Rule}
use Rattle.tt_problem.specs.declared.parts.RulePlace.{RulePlace}
use Rattle.tt_problem.specs.declared.parts.Parts.{Parts}
use Rattle.tt_problem.specs.RulePlaces.{place_in, places_from, rules_of}
use Rattle.tt_problem.proofs.PlaceLemmas.{place_in-Some}
use Rattle.tt_occupancy.specs.Clashes.{clash, clash_pairs, clash_count}
use Rattle.tt_occupancy.proofs.ClashLemmas.{clash_pairs-set, clash_pairs-full}
use Rattle.tt_clash.specs.Amounts.{kind_amount, rule_amounts}
use Rattle.tt_clash.specs.Blocked.{blocked_by}
use Rattle.tt_clash.specs.Rules.{is_required_group}
use Rattle.tt_clash.specs.Placings.{Placing}
use Rattle.tt_clash.specs.ConflictSet.{breaks_rule, breaks_pair, spot_with, conflict_set, clashing}
use Rattle.tt_clash.specs.Freed.{IsFreed, IsFreedRule}
use Rattle.tt_clash.proofs.AmountLemmas.{free-from_open}
use Rattle.tt_clash.proofs.ForcedLemmas.{no-clash-left}
use Rattle.tt_clash.proofs.FreedLemmas.{freed-all}
use Rattle.tt_score.specs.Amounts.{held_by, kind_hard, rule_amount, hard_of, hard_sum}
use Rattle.tt_score.specs.Additions.{rule_hard}
use Rattle.tt_score.proofs.MemberLemmas.{held_by-set, held_by-other}

-- a test that no item passes counts none
count_none : {X : Type 0} (f : X → Bool) (d : X) (xs : List X) → ((k : ℕ) → k < length xs → f (get_or xs k d) ≡ false) → count_by f xs ≡ 0
count_none f d [] h = refl
count_none f d (x ∷ xs) h =
    let first = ap {B = ℕ} (λ (b : Bool). cond b 1 0) (h 0 (omega arith)) in
    omega (arith, first, count_none f d xs (λ k lt. h (suc k) (omega arith)), sum_by-cons (λ y. cond (f y) 1 0) x xs)

-- what all that are listed have, each of them has
pub at_rule : (P : RulePlace → Type 0) (class first : ℕ) (rules : List Rule) (k q : ℕ) (r : Rule) → AllByRecursion P (places_from class first rules) → slice_get rules k ≡ Some r → place_in class r ≡ Some q
    → P (record { rule = first + k; place = q })
at_rule P class first [] k q r all is here = absurd (cc is)
at_rule P class first (s ∷ rules) zero q r all is here =
    let same : s ≡ r = cc is in
    let at : place_in class s ≡ Some q = ap (place_in class) same ∙ here in
    let start : first + 0 ≡ first = omega arith in
    rw start (rw at at all).0
at_rule P class first (s ∷ rules) (suc k) q r all is here =
    let next : first + 1 + k ≡ first + suc k = omega arith in
    rw (← next) (at_rule P class (first + 1) rules k q r (rest (place_in class s) all) is here)
  where
    rest : (o : Option ℕ) → AllByRecursion P (cons_option (option_map (λ (place : ℕ). record { rule = first; place = place }) o) (places_from class (first + 1) rules)) → AllByRecursion P (places_from class (first + 1) rules)
    rest None h = h
    rest (Some place) h = h.1

-- each item fails a test that none passes
pub none_of : {X : Type 0} (f : X → Bool) (xs : List X) → list_any f xs ≡ false → AllByRecursion (λ x. f x ≡ false) xs
none_of f [] e = tt
none_of f (x ∷ xs) e = let parts = or_parts (f x) (list_any f xs) e in (parts.0, none_of f xs parts.1)

listed_drop : (d q : ℕ) (ms : List ℕ) → is_listed d (drop (suc q) ms) ≡ true → is_listed d (drop q ms) ≡ true
listed_drop d zero [] e = absurd (cc e)
listed_drop d zero (m ∷ ms) e = rw e (or_true (nat_eq d m))
  where
    or_true : (b : Bool) → (b || true) ≡ true
    or_true true = refl
    or_true false = refl
listed_drop d (suc q) [] e = absurd (cc e)
listed_drop d (suc q) (m ∷ ms) e = listed_drop d q ms e

left_fails : (a b z : Bool) → ((a && b) || z) ≡ false → a ≡ true → b ≡ false
left_fails true true z h e = absurd (cc h)
left_fails true false z h e = refl
left_fails false b z h e = absurd (cc e)

right_fails : (z a b : Bool) → (z || (a && b)) ≡ false → a ≡ true → b ≡ false
right_fails true a b h e = absurd (cc h)
right_fails false true b h e = h
right_fails false false b h e = absurd (cc e)

-- members of which none that is placed passes a test
members_none : (g : Spot → Bool) (spots : List (Option Spot)) (ms : List ℕ) → ((d : ℕ) (y : Spot) → is_listed d ms ≡ true → spot_at spots d ≡ Some y → g y ≡ false) → count_by g (placed (map (spot_at spots) ms)) ≡ 0
members_none g spots [] h = refl
members_none g spots (m ∷ ms) h = step (spot_at spots m) refl (members_none g spots ms (λ d y listed is. h d y (rw listed (or_true (nat_eq d m))) is))
  where
    or_true : (b : Bool) → (b || true) ≡ true
    or_true true = refl
    or_true false = refl

    step : (o : Option Spot) → spot_at spots m ≡ o → count_by g (placed (map (spot_at spots) ms)) ≡ 0 → count_by g (placed (o ∷ map (spot_at spots) ms)) ≡ 0
    step None is rest = rest
    step (Some y) is rest =
        let first = ap {B = ℕ} (λ (b : Bool). cond b 1 0) (h m y (rw (eq-eqb m m refl) refl) is) in
        omega (arith, first, rest, sum_by-cons (λ z. cond (g z) 1 0) y (placed (map (spot_at spots) ms)))

module _ (p : Parts) (closures : List Closure) (h : List (Option Spot)) (c : ℕ) (x : Spot) (within : c < length h) (none : blocked_by p closures c x ≡ None) (empty : conflict_set (rule_amounts p) (record { problem = p; spots = h; class = c; spot = x }) ≡ []) where
  -- the class among the others
  abbrev s : Placing
  s = record { problem = p; spots = h; class = c; spot = x }

  -- the spots once the class has moved, and those without it
  abbrev moved : List (Option Spot)
  moved = slice_set h c (Some x)

  abbrev without : List (Option Spot)
  without = slice_set h c None

  -- no other class stands in its way
  apart : (d : ℕ) (y : Spot) → (d == c) ≡ false → spot_at h d ≡ Some y → (clash x y || list_any (breaks_rule s d y) (rules_of p c)) ≡ false
  apart d y other is =
      let stays : spot_with s (conflict_set (rule_amounts p) s) d ≡ Some y = rw (empty, other) is in
      no-clash-left (rule_amounts p) s d y other stays

  -- what is placed without it is of another class
  other_there : (d : ℕ) (y : Spot) → spot_at without d ≡ Some y → ((d == c) ≡ false) × (spot_at h d ≡ Some y)
  other_there d y is =
      elim (cases_eq d c) [
        | inl same ↦ absurd (let gone : spot_at without d ≡ None = ap (spot_at without) same ∙ get_or-set_same h c None None within in cc (gone, is))
        | inr differs ↦ (ne_eqb d c differs, sym (get_or-set_other h c d None None differs) ∙ is)
      ]

  no_clash : clash_count h x c ≡ 0
  no_clash =
      count_by-placed (clash x) without
      ∙ count_none (λ s. option_map_or (clash x) s false) None without (λ k lt. by k (spot_at without k) refl)
    where
      by : (k : ℕ) (o : Option Spot) → spot_at without k ≡ o → option_map_or (clash x) o false ≡ false
      by k None is = refl
      by k (Some y) is = let there = other_there k y is in (or_parts (clash x y) (list_any (breaks_rule s k y) (rules_of p c)) (apart k y there.0 there.1)).0

  -- the clashes do not rise
  pub clashes-fall : clash_pairs moved ≤ clash_pairs h
  clashes-fall =
      let again : moved ≡ slice_set without c (Some x) = sym (set-set h c None (Some x)) in
      let now = ap clash_pairs again ∙ clash_pairs-set without c x (emptied h c within) in
      omega (arith, now, no_clash, before (spot_at h c) refl)
    where
      before : (o : Option Spot) → spot_at h c ≡ o → clash_pairs without ≤ clash_pairs h
      before None is = let same : without ≡ h = set_empty h c (within, is) in omega (arith, ap clash_pairs same)
      before (Some y) is = omega (arith, clash_pairs-full h c y is)

  -- a rule that has the class, by its place
  pub breaks-none : (k q d : ℕ) (y : Spot) (r : Rule) → slice_get p.rules k ≡ Some r → place_in c r ≡ Some q → spot_at without d ≡ Some y → breaks_rule s d y (record { rule = k; place = q }) ≡ false
  breaks-none k q d y r is here placed_there =
      let there = other_there d y placed_there in
      let all = none_of (breaks_rule s d y) (rules_of p c) (or_parts (clash x y) (list_any (breaks_rule s d y) (rules_of p c)) (apart d y there.0 there.1)).1 in
      let start : 0 + k ≡ k = omega arith in
      rw start at (at_rule (λ rule. breaks_rule s d y rule ≡ false) c 0 p.rules k q r all is here)

  pub freed-rule : (k q : ℕ) (r : Rule) → slice_get p.rules k ≡ Some r → place_in c r ≡ Some q → IsFreedRule (rule_amounts p) s [] (record { rule = k; place = q })
  freed-rule k q r is here =
      let all = freed-all (rule_amounts p) s (clashing s) (rules_of p c) (free-from_open closures s none) in
      let those = recursion_from_All (IsFreedRule (rule_amounts p) s (conflict_set (rule_amounts p) s)) (rules_of p c) all in
      let start : 0 + k ≡ k = omega arith in
      let one = at_rule (IsFreedRule (rule_amounts p) s (conflict_set (rule_amounts p) s)) c 0 p.rules k q r those is here in
      rw (start, empty) at one

  -- a pair rule
  pair-falls : (k q : ℕ) (r : Rule) (kind : PairKind) → slice_get p.rules k ≡ Some r → r.required ≡ true → r.kind ≡ Pair kind → IsDistinct nat_eq r.members → place_in c r ≡ Some q
      → violated_pairs kind p.travel (held_by moved r) ≤ violated_pairs kind p.travel (held_by h r)
  pair-falls k q r kind is required pair distinct here =
      let t = p.travel in
      let held = held_by h r in
      let less = held_by without r in
      let less_is : less ≡ slice_set held q None = held_by-set h r c q None distinct here within in
      let now_is : held_by moved r ≡ slice_set less q (Some x) = held_by-set h r c q (Some x) distinct here within ∙ sym (set-set held q None (Some x)) ∙ ap (λ l. slice_set l q (Some x)) (sym less_is) in
      let place : q < length held = full q here in
      let hole : IsEmptyAt less q = rw less_is (emptied held q place) in
      let now = ap (violated_pairs kind t) now_is ∙ violated_pairs-set kind t less q x hole in
      omega (arith, now, none_with, before (spot_at held q) refl less_is)
    where
      full : (q : ℕ) → place_in c r ≡ Some q → q < length (held_by h r)
      full q e = omega (arith, (place_in-Some c r q e).0, length-map r.members (spot_at h))

      broken : (d : ℕ) (y : Spot) → spot_at without d ≡ Some y → breaks_pair kind p.travel (take q r.members) (drop q r.members) x d y ≡ false
      broken d y there =
          let one = breaks-none k q d y r is here there in
          rw (is, required, pair) at one

      none_with : violated_with kind p.travel (held_by without r) q x ≡ 0
      none_with =
          let front = members_none (λ y. is_violated kind p.travel y x) without (take q r.members)
          (λ d y listed there. left_fails (is_listed d (take q r.members)) (is_violated kind p.travel y x) (is_listed d (drop q r.members) && is_violated kind p.travel x y) (broken d y there) listed) in
          let back = members_none (is_violated kind p.travel x) without (drop (suc q) r.members)
          (λ d y listed there. right_fails (is_listed d (take q r.members) && is_violated kind p.travel y x) (is_listed d (drop q r.members)) (is_violated kind p.travel x y) (broken d y there) (listed_drop d q r.members listed)) in
          let first = ap (λ l. count_by (λ y. is_violated kind p.travel y x) (placed l)) (take-map (spot_at without) q r.members) in
          let second = ap (λ l. count_by (is_violated kind p.travel x) (placed l)) (drop-map (spot_at without) (suc q) r.members) in
          omega (arith, front, back, first, second)

      before : (o : Option Spot) → spot_at (held_by h r) q ≡ o → held_by without r ≡ slice_set (held_by h r) q None → violated_pairs kind p.travel (held_by without r) ≤ violated_pairs kind p.travel (held_by h r)
      before None at e = let same : held_by without r ≡ held_by h r = e ∙ set_empty (held_by h r) q (full q here, at) in omega (arith, ap (violated_pairs kind p.travel) same)
      before (Some y) at e =
          let hole : IsEmptyAt (held_by without r) q = rw e (emptied (held_by h r) q (full q here)) in
          let whole : slice_set (held_by without r) q (Some y) ≡ held_by h r = ap (λ l. slice_set l q (Some y)) e ∙ set_back (held_by h r) q y at in
          omega (arith, ap (violated_pairs kind p.travel) whole, violated_pairs-set kind p.travel (held_by without r) q y hole)

  -- what its members have once the class has moved
  moved_spot : (d : ℕ) → spot_with s [] d ≡ spot_at moved d
  moved_spot d =
      elim (cases_eq d c) [
        | inl same ↦ rw (same, eq-eqb c c refl) (sym (get_or-set_same h c (Some x) None within))
        | inr differs ↦ rw (ne_eqb d c differs) (sym (get_or-set_other h c d (Some x) None differs))
      ]

  moved_held : (ms : List ℕ) → map (spot_with s []) ms ≡ map (spot_at moved) ms
  moved_held [] = refl
  moved_held (m ∷ ms) = ap (λ y. y ∷ map (spot_with s []) ms) (moved_spot m) ∙ ap (λ l. spot_at moved m ∷ l) (moved_held ms)

  -- a required group rule that has the class has amount 0
  pub group-zero : (k q : ℕ) (r : Rule) → slice_get p.rules k ≡ Some r → is_required_group r ≡ true → place_in c r ≡ Some q → kind_amount r.kind p.nr_weeks p.travel (held_by moved r) ≡ 0
  group-zero k q r is group here =
      let freed = freed-rule k q r is here in
      let one : IsFreed (rule_amounts p k) r.members s [] = (rw is at freed) group in
      let front : take one.front [] ≡ [] = take_none one.front in
      let zero_is : rule_amounts p k (map (spot_with s []) r.members) ≡ 0 = rw front at one.free in
      let amount : rule_amounts p k (map (spot_with s []) r.members) ≡ kind_amount r.kind p.nr_weeks p.travel (map (spot_with s []) r.members) = rw is refl in
      ap (kind_amount r.kind p.nr_weeks p.travel) (sym (moved_held r.members)) ∙ sym amount ∙ zero_is
    where
      take_none : (n : ℕ) → take {A = ℕ} n [] ≡ []
      take_none zero = refl
      take_none (suc n) = refl

  kind-falls : (kind : DistKind) (k q : ℕ) (r : Rule) → r.kind ≡ kind → slice_get p.rules k ≡ Some r → r.required ≡ true → IsDistinct nat_eq r.members → place_in c r ≡ Some q
      → kind_hard kind (kind_amount kind p.nr_weeks p.travel (held_by moved r)) ≤ kind_hard kind (kind_amount kind p.nr_weeks p.travel (held_by h r))
  kind-falls (Pair kind) k q r e is required distinct here = pair-falls k q r kind is required e distinct here
  kind-falls (MaxDays most) k q r e is required distinct here =
      let zero_is = group-zero k q r is (rw (e, required) refl) here in
      let amount : kind_amount (MaxDays most) p.nr_weeks p.travel (held_by moved r) ≡ 0 = rw e at zero_is in
      rw amount (omega arith)
  kind-falls (MaxWeeks most) k q r e is required distinct here =
      let zero_is = group-zero k q r is (rw (e, required) refl) here in
      let amount : kind_amount (MaxWeeks most) p.nr_weeks p.travel (held_by moved r) ≡ 0 = rw e at zero_is in
      rw amount (omega arith)
  kind-falls (MaxDayLoad most) k q r e is required distinct here =
      let zero_is = group-zero k q r is (rw (e, required) refl) here in
      let amount : kind_amount (MaxDayLoad most) p.nr_weeks p.travel (held_by moved r) ≡ 0 = rw e at zero_is in
      rw amount (omega arith)
  kind-falls (MaxBreaks breaks gap) k q r e is required distinct here =
      let zero_is = group-zero k q r is (rw (e, required) refl) here in
      let amount : kind_amount (MaxBreaks breaks gap) p.nr_weeks p.travel (held_by moved r) ≡ 0 = rw e at zero_is in
      rw amount (omega arith)
  kind-falls (MaxBlock most gap) k q r e is required distinct here =
      let zero_is = group-zero k q r is (rw (e, required) refl) here in
      let amount : kind_amount (MaxBlock most gap) p.nr_weeks p.travel (held_by moved r) ≡ 0 = rw e at zero_is in
      rw amount (omega arith)

  -- the hard conflicts of a rule do not rise
  pub rule-falls : (k : ℕ) (r : Rule) → slice_get p.rules k ≡ Some r → IsDistinct nat_eq r.members → rule_hard p moved r ≤ rule_hard p h r
  unfolding rule_amount hard_of
  rule-falls k r is distinct = by r.required refl (place_in c r) refl
    where
      by : (b : Bool) → r.required ≡ b → (o : Option ℕ) → place_in c r ≡ o
          → (if b then kind_hard r.kind (kind_amount r.kind p.nr_weeks p.travel (held_by moved r)) else 0) ≤ (if b then kind_hard r.kind (kind_amount r.kind p.nr_weeks p.travel (held_by h r)) else 0)
      by false e o here = omega arith
      by true e None here = let same = ap (λ l. kind_hard r.kind (kind_amount r.kind p.nr_weeks p.travel l)) (held_by-other h r c (Some x) here) in omega (arith, same)
      by true e (Some q) here = kind-falls r.kind k q r refl is e distinct here

  -- nor do those of all rules
  pub rules-fall : ((k : ℕ) (r : Rule) → slice_get p.rules k ≡ Some r → IsDistinct nat_eq r.members) → hard_sum p moved ≤ hard_sum p h
  rules-fall distinct = from p.rules (λ k r is. rule-falls k r is (distinct k r is))
    where
      from : (rules : List Rule) → ((k : ℕ) (r : Rule) → slice_get rules k ≡ Some r → rule_hard p moved r ≤ rule_hard p h r) → sum_by (rule_hard p moved) rules ≤ sum_by (rule_hard p h) rules
      from [] each = omega arith
      from (r ∷ rules) each =
          let first = each 0 r refl in
          omega (arith, first, from rules (λ k s is. each (suc k) s is), sum_by-cons (rule_hard p moved) r rules, sum_by-cons (rule_hard p h) r rules)
