-- Two classes that exchange their places, where no class stands in the way of the first one without the other, nor then in that
-- of the other: the number called hard doesn't rise.
use Rattle.std.proofs.Common.{◌≡◌, ◌∙◌, ℕ, ◌<◌, ◌≤◌, Bool, true, false, List, [], ◌∷◌, Option, Some, None, length, sum_by, nat_eq, suc, refl, sym, ap, arith}
use Rattle.std.specs.Prelude.{slice_set, slice_get}
use Rattle.std.specs.List.{IsDistinct}
use Rattle.std.proofs.lemmas.List.{length-map, length-set}
use Rattle.std.proofs.lemmas.List.Sums.{sum_by-cons}
use Rattle.tt_bits.specs.declared.pairs.PairKind.{PairKind}
use Rattle.tt_bits.specs.declared.times.Closure.{Closure}
use Rattle.tt_bits.specs.declared.times.Spot.{Spot}
use Rattle.tt_bits.specs.declared.times.Value.{Value}
use Rattle.tt_bits.specs.Spots.{IsEmptyAt, spot_at}
use Rattle.tt_bits.proofs.SpotLemmas.{emptied, set_back, set_empty}
use Rattle.tt_pair.specs.ViolatedPairs.{violated_pairs}
use Rattle.tt_pair.specs.PairLaws.{violated_pairs-set}
use Rattle.tt_problem.specs.declared.parts.DistKind.{DistKind}
use Rattle.tt_problem.specs.declared.parts.DistKind.TheVariants.{Pair, MaxDays, MaxWeeks, MaxDayLoad, MaxBreaks, MaxBlock}
use Rattle.tt_problem.specs.declared.parts.Parts.{Parts}
use Rattle.tt_problem.specs.declared.parts.Rule.{Rule}
use Rattle.tt_problem.specs.RulePlaces.{place_in}
use Rattle.tt_problem.specs.Valid.{IsValid}
use Rattle.tt_problem.proofs.PlaceLemmas.{place_in-Some}
use Rattle.tt_plan.specs.Domain.{spot_at_value, spots_of}
use Rattle.tt_occupancy.specs.Clashes.{clash_pairs}
use Rattle.tt_occupancy.proofs.ClashLemmas.{clash_pairs-full}
use Rattle.tt_clash.specs.Amounts.{kind_amount, rule_amounts}
use Rattle.tt_clash.specs.Blocked.{blocked_by}
use Rattle.tt_clash.specs.ConflictSet.{conflict_set}
use Rattle.tt_score.specs.Amounts.{hard_of, hard_sum, held_by, kind_hard, rule_amount}
use Rattle.tt_score.specs.Additions.{rule_hard}
use Rattle.tt_score.specs.Forcing.{among}
use Rattle.tt_score.specs.Placed.{closed_count}
use Rattle.tt_score.specs.Totals.{totals_of}
use Rattle.tt_score.proofs.MemberLemmas.{held_by-other, held_by-set}
use Rattle.tt_score.proofs.PlanLemmas.{length-spots_from, over_placed-set, spots_of-set}
use Rattle.tt_improve.proofs.FallLemmas.{distinct-rules, open_value}
use Rattle.tt_improve.proofs.HardLemmas.{clashes-fall, group-zero, rule-falls}

-- without a class there are no more clashes
pub clashes-without : (h : List (Option Spot)) (d : ℕ) → d < length h → clash_pairs (slice_set h d None) ≤ clash_pairs h
clashes-without h d within = by (spot_at h d) refl
  where
    by : (o : Option Spot) → spot_at h d ≡ o → clash_pairs (slice_set h d None) ≤ clash_pairs h
    by None is = let same : slice_set h d None ≡ h = set_empty h d (within, is) in omega (arith, ap clash_pairs same)
    by (Some y) is = omega (arith, clash_pairs-full h d y is)

module _ (p : Parts) (closures : List Closure) (h : List (Option Spot)) (c : ℕ) (x : Spot) (d : ℕ) (y : Spot) (c_in : c < length h) (d_in : d < length h) (c_open : blocked_by p closures c x ≡ None) (c_free : conflict_set (rule_amounts p) (record { problem = p; spots = slice_set h d None; class = c; spot = x }) ≡ []) (d_open : blocked_by p closures d y ≡ None) (d_free : conflict_set (rule_amounts p) (record { problem = p; spots = slice_set (slice_set h d None) c (Some x); class = d; spot = y }) ≡ []) where
  -- the spots without the other class, then with the class at its new one, and in the end
  abbrev without : List (Option Spot)
  without = slice_set h d None

  abbrev half : List (Option Spot)
  half = slice_set without c (Some x)

  abbrev whole : List (Option Spot)
  whole = slice_set half d (Some y)

  first_in : c < length without
  first_in = omega (arith, length-set h d None, c_in)

  then_in : d < length half
  then_in = omega (arith, length-set h d None, length-set without c (Some x), d_in)

  pub clashes-exchanged : clash_pairs whole ≤ clash_pairs h
  clashes-exchanged =
      let one = clashes-without h d d_in in
      let two : clash_pairs half ≤ clash_pairs without = clashes-fall p closures without c x first_in c_open c_free in
      let three : clash_pairs whole ≤ clash_pairs half = clashes-fall p closures half d y then_in d_open d_free in
      omega (arith, one, two, three)

  -- a rule that doesn't have the other class
  other-rule : (k : ℕ) (r : Rule) → slice_get p.rules k ≡ Some r → IsDistinct nat_eq r.members → place_in d r ≡ None → rule_hard p whole r ≤ rule_hard p h r
  unfolding rule_amount
  other-rule k r is distinct here =
      let hard : List (Option Spot) → ℕ = λ (held : List (Option Spot)). hard_of r (kind_amount r.kind p.nr_weeks p.travel held) in
      let end : rule_hard p whole r ≡ rule_hard p half r = ap hard (held_by-other half r d (Some y) here) in
      let start : rule_hard p without r ≡ rule_hard p h r = ap hard (held_by-other h r d None here) in
      let falls : rule_hard p half r ≤ rule_hard p without r = rule-falls p closures without c x first_in c_open c_free k r is distinct in
      omega (arith, end, start, falls)

  -- a pair rule that has it: without it no more pairs are violated
  pair-without : (q : ℕ) (r : Rule) (kind : PairKind) → IsDistinct nat_eq r.members → place_in d r ≡ Some q → violated_pairs kind p.travel (held_by without r) ≤ violated_pairs kind p.travel (held_by h r)
  pair-without q r kind distinct here =
      let place : q < length (held_by h r) = omega (arith, (place_in-Some d r q here).0, length-map r.members (spot_at h)) in
      by (spot_at (held_by h r) q) refl place (held_by-set h r d q None distinct here d_in)
    where
      by : (o : Option Spot) → spot_at (held_by h r) q ≡ o → q < length (held_by h r) → held_by without r ≡ slice_set (held_by h r) q None → violated_pairs kind p.travel (held_by without r) ≤ violated_pairs kind p.travel (held_by h r)
      by None at place e = let same : held_by without r ≡ held_by h r = e ∙ set_empty (held_by h r) q (place, at) in omega (arith, ap (violated_pairs kind p.travel) same)
      by (Some z) at place e =
          let hole : IsEmptyAt (held_by without r) q = rw e (emptied (held_by h r) q place) in
          let full : slice_set (held_by without r) q (Some z) ≡ held_by h r = ap (λ l. slice_set l q (Some z)) e ∙ set_back (held_by h r) q z at in
          omega (arith, ap (violated_pairs kind p.travel) full, violated_pairs-set kind p.travel (held_by without r) q z hole)

  pair-rule : (k q : ℕ) (r : Rule) (kind : PairKind) → slice_get p.rules k ≡ Some r → r.required ≡ true → r.kind ≡ Pair kind → IsDistinct nat_eq r.members → place_in d r ≡ Some q → rule_hard p whole r ≤ rule_hard p h r
  unfolding rule_amount hard_of
  pair-rule k q r kind is required pair distinct here =
      let pairs : List (Option Spot) → ℕ = λ (spots : List (Option Spot)). violated_pairs kind p.travel (held_by spots r) in
      let hard : (spots : List (Option Spot)) → rule_hard p spots r ≡ violated_pairs kind p.travel (held_by spots r) = λ (spots : List (Option Spot)). rw (required, pair) refl in
      let one = pair-without q r kind distinct here in
      let two : rule_hard p half r ≤ rule_hard p without r = rule-falls p closures without c x first_in c_open c_free k r is distinct in
      let three : rule_hard p whole r ≤ rule_hard p half r = rule-falls p closures half d y then_in d_open d_free k r is distinct in
      omega (arith, one, two, three, hard h, hard without)

  -- a group rule that has it has no amount in the end
  group-rule : (kind : DistKind) (k q : ℕ) (r : Rule) → r.kind ≡ kind → slice_get p.rules k ≡ Some r → r.required ≡ true → place_in d r ≡ Some q → kind_hard kind 0 ≡ 0 → (kind_amount r.kind p.nr_weeks p.travel (held_by whole r) ≡ 0) → rule_hard p whole r ≤ rule_hard p h r
  unfolding rule_amount hard_of
  group-rule kind k q r e is required here none zero_is =
      let hard : rule_hard p whole r ≡ 0 = rw (required, zero_is, e) none in
      omega (arith, hard)

  required-rule : (kind : DistKind) (k q : ℕ) (r : Rule) → r.kind ≡ kind → slice_get p.rules k ≡ Some r → r.required ≡ true → IsDistinct nat_eq r.members → place_in d r ≡ Some q → rule_hard p whole r ≤ rule_hard p h r
  required-rule (Pair kind) k q r e is required distinct here = pair-rule k q r kind is required e distinct here
  required-rule (MaxDays most) k q r e is required distinct here = group-rule (MaxDays most) k q r e is required here refl (group-zero p closures half d y then_in d_open d_free k q r is (rw (e, required) refl) here)
  required-rule (MaxWeeks most) k q r e is required distinct here = group-rule (MaxWeeks most) k q r e is required here refl (group-zero p closures half d y then_in d_open d_free k q r is (rw (e, required) refl) here)
  required-rule (MaxDayLoad most) k q r e is required distinct here = group-rule (MaxDayLoad most) k q r e is required here refl (group-zero p closures half d y then_in d_open d_free k q r is (rw (e, required) refl) here)
  required-rule (MaxBreaks breaks gap) k q r e is required distinct here = group-rule (MaxBreaks breaks gap) k q r e is required here refl (group-zero p closures half d y then_in d_open d_free k q r is (rw (e, required) refl) here)
  required-rule (MaxBlock most gap) k q r e is required distinct here = group-rule (MaxBlock most gap) k q r e is required here refl (group-zero p closures half d y then_in d_open d_free k q r is (rw (e, required) refl) here)

  soft-rule : (r : Rule) → r.required ≡ false → rule_hard p whole r ≤ rule_hard p h r
  unfolding rule_amount hard_of
  soft-rule r soft = let none : rule_hard p whole r ≡ 0 = rw soft refl in omega (arith, none)

  rule-exchanged : (k : ℕ) (r : Rule) → slice_get p.rules k ≡ Some r → IsDistinct nat_eq r.members → rule_hard p whole r ≤ rule_hard p h r
  rule-exchanged k r is distinct = by (place_in d r) refl r.required refl
    where
      by : (o : Option ℕ) → place_in d r ≡ o → (b : Bool) → r.required ≡ b → rule_hard p whole r ≤ rule_hard p h r
      by None here b required = other-rule k r is distinct here
      by (Some q) here true required = required-rule r.kind k q r refl is required distinct here
      by (Some q) here false soft = soft-rule r soft

  pub rules-exchanged : ((k : ℕ) (r : Rule) → slice_get p.rules k ≡ Some r → IsDistinct nat_eq r.members) → hard_sum p whole ≤ hard_sum p h
  rules-exchanged distinct = from p.rules (λ k r is. rule-exchanged k r is (distinct k r is))
    where
      from : (rules : List Rule) → ((k : ℕ) (r : Rule) → slice_get rules k ≡ Some r → rule_hard p whole r ≤ rule_hard p h r) → sum_by (rule_hard p whole) rules ≤ sum_by (rule_hard p h) rules
      from [] each = omega arith
      from (r ∷ rules) each =
          let first = each 0 r refl in
          omega (arith, first, from rules (λ k s is. each (suc k) s is), sum_by-cons (rule_hard p whole) r rules, sum_by-cons (rule_hard p h) r rules)

-- the values of two classes in a plan
pub exchange-falls : (p : Parts) (closures : List Closure) (plan : List (Option Value)) (lists : List (List ℕ)) (c : ℕ) (v : Value) (x : Spot) (d : ℕ) (to : Value) (y : Spot) → IsValid p → c < length plan → d < length plan
    → spot_at_value p c v ≡ Some x → spot_at_value p d to ≡ Some y
    → blocked_by p closures c x ≡ None → conflict_set (rule_amounts p) (among p (slice_set plan d None) c x) ≡ []
    → blocked_by p closures d y ≡ None → conflict_set (rule_amounts p) (among p (slice_set (slice_set plan d None) c (Some v)) d y) ≡ []
    → (totals_of p closures (slice_set (slice_set (slice_set plan d None) c (Some v)) d (Some to)) lists).hard ≤ (totals_of p closures plan lists).hard
exchange-falls p closures plan lists c v x d to y valid c_within d_within c_is d_is c_open c_free d_open d_free =
    let h : List (Option Spot) = spots_of p plan in
    let plan_one : List (Option Value) = slice_set plan d None in
    let plan_two : List (Option Value) = slice_set plan_one c (Some v) in
    let plan_three : List (Option Value) = slice_set plan_two d (Some to) in
    let long : length h ≡ length plan = length-spots_from p 0 plan in
    let c_in : c < length h = omega (arith, long, c_within) in
    let d_in : d < length h = omega (arith, long, d_within) in
    let one : spots_of p plan_one ≡ slice_set h d None = spots_of-set p plan d None in
    let two : spots_of p plan_two ≡ slice_set (slice_set h d None) c (Some x) = spots_of-set p plan_one c (Some v) ∙ ap (slice_set (spots_of p plan_one) c) c_is ∙ ap (λ (l : List (Option Spot)). slice_set l c (Some x)) one in
    let three : spots_of p plan_three ≡ slice_set (slice_set (slice_set h d None) c (Some x)) d (Some y) = spots_of-set p plan_two d (Some to) ∙ ap (slice_set (spots_of p plan_two) d) d_is ∙ ap (λ (l : List (Option Spot)). slice_set l d (Some y)) two in
    let first_free : conflict_set (rule_amounts p) (record { problem = p; spots = slice_set h d None; class = c; spot = x }) ≡ [] = ap (λ (l : List (Option Spot)). conflict_set (rule_amounts p) (record { problem = p; spots = l; class = c; spot = x })) (sym one) ∙ c_free in
    let then_free : conflict_set (rule_amounts p) (record { problem = p; spots = slice_set (slice_set h d None) c (Some x); class = d; spot = y }) ≡ [] = ap (λ (l : List (Option Spot)). conflict_set (rule_amounts p) (record { problem = p; spots = l; class = d; spot = y })) (sym two) ∙ d_free in
    let clashes = clashes-exchanged p closures h c x d y c_in d_in c_open first_free d_open then_free in
    let rules = rules-exchanged p closures h c x d y c_in d_in c_open first_free d_open then_free (distinct-rules p valid) in
    let long_one : length plan_one ≡ length plan = length-set plan d None in
    let long_two : length plan_two ≡ length plan_one = length-set plan_one c (Some v) in
    let closed_one = over_placed-set (closed_count p closures) plan d None d_within in
    let closed_two = over_placed-set (closed_count p closures) plan_one c (Some v) (omega (arith, long_one, c_within)) in
    let closed_three = over_placed-set (closed_count p closures) plan_two d (Some to) (omega (arith, long_one, long_two, d_within)) in
    let first_open = open_value p closures c v x c_is c_open in
    let then_open = open_value p closures d to y d_is d_open in
    rw three (omega (arith, clashes, rules, closed_one, closed_two, closed_three, first_open, then_open))
