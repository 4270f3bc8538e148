-- There are as many hard violations as the totals count.
use Rattle.std.proofs.Common.{◌≡◌, ◌∙◌, ℕ, ◌+◌, ◌-◌, Bool, true, false, cond, List, [], ◌∷◌, ◌++◌, Option, Some, None, length, get_or, refl, sym, ap, suc, arith, length-append}
use Rattle.std.specs.Prelude.{◌==◌, map, sum_by, slice_get, option_and_then}
use Rattle.std.specs.Option.{option_map_or}
use Rattle.std.specs.List.{flat_map, range_with_len}
use Rattle.std.proofs.lemmas.List.{length-map}
use Rattle.std.proofs.lemmas.List.Concat.{length-flat_map}
use Rattle.std.proofs.lemmas.List.FromFn.{fill_by_all, length-map-range_with_len}
use Rattle.std.proofs.lemmas.List.Sums.{sum_by-cons}
use Rattle.tt_base.specs.Among.{pairs_among}
use Rattle.tt_bits.specs.declared.times.Closure.{Closure}
use Rattle.tt_bits.specs.declared.times.Spot.{Spot}
use Rattle.tt_bits.specs.declared.times.Value.{Value}
use Rattle.tt_bits.specs.declared.pairs.PairKind.{PairKind}
use Rattle.tt_bits.specs.Spots.{placed, spot_at}
use Rattle.tt_problem.specs.declared.parts.DistKind.{DistKind}
use Rattle.tt_problem.specs.declared.parts.DistKind.TheVariants.{Pair, MaxDays, MaxWeeks, MaxDayLoad, MaxBreaks, MaxBlock}
use Rattle.tt_problem.specs.declared.parts.Parts.{Parts}
use Rattle.tt_problem.specs.declared.parts.Rule.{Rule}
use Rattle.tt_clash.specs.Blocked.{is_closed}
use Rattle.tt_occupancy.specs.Clashes.{clash, clash_pairs}
use Rattle.tt_pair.specs.ViolatedPairs.{is_violated, violated_pairs}
use Rattle.tt_plan.specs.Domain.{spot_at_value, spots_of}
use Rattle.tt_score.specs.Amounts.{hard_of, hard_sum, held_by, kind_hard, one_if_any, rule_amount}
use Rattle.tt_score.specs.Additions.{paid_at, rule_hard}
use Rattle.tt_score.specs.Placed.{closed_count, over_placed}
use Rattle.tt_score.specs.Totals.{totals_of}
use Rattle.tt_score.proofs.PlanLemmas.{spot_in}
use Rattle.tt_verify.specs.declared.violation.Violation.{Violation}
use Rattle.tt_verify.specs.declared.violation.Violation.TheVariants as what
use Rattle.tt_published.specs.Published.{published_plan, published_value}
use Rattle.tt_published.specs.Timetable.{Timetable}
use Rattle.tt_verify.specs.Hard.{AreAsManyAsHard}
use Rattle.tt_verify.specs.Pairs.{are_related, related_pairs}
use Rattle.tt_verify.specs.Violations.{closed_fault, hard_violations, kind_faults, rule_faults, rule_faults_at}
use Rattle.tt_verify.specs.Found.{amount_faults, pair_faults, timetable_totals}
use Rattle.tt_verify.proofs.PairLemmas.{length-related_pairs, pairs_among-placed}

abbrev clashes_of : List (Option Spot) → List Violation
clashes_of spots = map (λ c. what.Clash c.0 c.1) (related_pairs (are_related clash spots) (range_with_len 0 (length spots)))

abbrev closed_faults : Parts → List Closure → List (Option Spot) → List Violation
closed_faults p closures spots = flat_map (closed_fault p closures spots) (range_with_len 0 (length p.classes))

abbrev all_rule_faults : Parts → List (Option Spot) → List Violation
all_rule_faults p spots = flat_map (rule_faults_at p spots) (range_with_len 0 (length p.rules))

-- the spots by place are the spots
spots_by_place : (spots : List (Option Spot)) → map (spot_at spots) (range_with_len 0 (length spots)) ≡ spots
spots_by_place spots = sym (fill_by_all (spot_at spots) spots (length spots) None refl (λ k below. refl))

length-clashes_of : (spots : List (Option Spot)) → length (clashes_of spots) ≡ clash_pairs spots
length-clashes_of spots =
    length-map (related_pairs (are_related clash spots) (range_with_len 0 (length spots))) (λ (c : ℕ × ℕ). what.Clash c.0 c.1)
    ∙ length-related_pairs (are_related clash spots) (range_with_len 0 (length spots))
    ∙ pairs_among-placed clash spots (range_with_len 0 (length spots))
    ∙ ap (λ l. pairs_among clash (placed l)) (spots_by_place spots)

sum_by-alike : (f g : ℕ → ℕ) (xs : List ℕ) → ((x : ℕ) → f x ≡ g x) → sum_by f xs ≡ sum_by g xs
sum_by-alike f g [] alike = refl
sum_by-alike f g (x ∷ xs) alike = omega (arith, sum_by-cons f x xs, sum_by-cons g x xs, alike x, sum_by-alike f g xs alike)

closed_here : (p : Parts) (closures : List Closure) (class : ℕ) (s : Option Spot) → length (cond (option_map_or (is_closed p closures) s false) (what.Closed class ∷ []) []) ≡ option_map_or (λ x. cond (is_closed p closures x) 1 0) s 0
closed_here p closures class None = refl
closed_here p closures class (Some x) = by (is_closed p closures x)
  where
    by : (b : Bool) → length (cond b (what.Closed class ∷ []) []) ≡ cond b 1 0
    by true = refl
    by false = refl

closed_at : (p : Parts) (closures : List Closure) (plan : List (Option Value)) (class : ℕ) → length (closed_fault p closures (spots_of p plan) class) ≡ paid_at (closed_count p closures) plan class
unfolding closed_fault closed_count
closed_at p closures plan class =
    ap (λ s. length (cond (option_map_or (is_closed p closures) s false) (what.Closed class ∷ []) [])) (spot_in p plan class) ∙ by (get_or plan class None)
  where
    by : (o : Option Value) → length (cond (option_map_or (is_closed p closures) (option_and_then (spot_at_value p class) o) false) (what.Closed class ∷ []) []) ≡ option_map_or (closed_count p closures class) o 0
    by None = refl
    by (Some v) = closed_here p closures class (spot_at_value p class v)

length-closed_faults : (p : Parts) (closures : List Closure) (plan : List (Option Value)) → length plan ≡ length p.classes → length (closed_faults p closures (spots_of p plan)) ≡ over_placed (closed_count p closures) plan
unfolding over_placed
length-closed_faults p closures plan whole =
    length-flat_map (closed_fault p closures (spots_of p plan)) (range_with_len 0 (length p.classes))
    ∙ sum_by-alike (λ class. length (closed_fault p closures (spots_of p plan) class)) (paid_at (closed_count p closures) plan) (range_with_len 0 (length p.classes)) (closed_at p closures plan)
    ∙ ap (λ n. sum_by (paid_at (closed_count p closures) plan) (range_with_len 0 n)) (sym whole)

length-amount_faults : (place amount : ℕ) → length (amount_faults place amount) ≡ one_if_any amount
unfolding amount_faults
length-amount_faults place amount = by (amount == 0)
  where
    by : (b : Bool) → length (cond b [] (what.Amount place amount ∷ [])) ≡ cond b 0 1
    by true = refl
    by false = refl

pair_amount : (p : Parts) (spots : List (Option Spot)) (r : Rule) (kind : PairKind) → r.kind ≡ Pair kind → rule_amount p spots r ≡ violated_pairs kind p.travel (held_by spots r)
unfolding rule_amount
pair_amount p spots r kind is = rw is refl

length-pair_faults : (place : ℕ) (pairs : List (ℕ × ℕ)) → length (pair_faults place pairs) ≡ length pairs
unfolding pair_faults
length-pair_faults place pairs = length-map pairs (λ (c : ℕ × ℕ). what.Pair place c.0 c.1)

length-kind_faults : (p : Parts) (spots : List (Option Spot)) (place : ℕ) (r : Rule) (kind : DistKind) → r.kind ≡ kind → length (kind_faults p spots place r kind) ≡ kind_hard kind (rule_amount p spots r)
unfolding kind_faults pair_faults amount_faults
length-kind_faults p spots place r (Pair kind) is =
    length-pair_faults place (related_pairs (are_related (is_violated kind p.travel) spots) r.members)
    ∙ length-related_pairs (are_related (is_violated kind p.travel) spots) r.members
    ∙ pairs_among-placed (is_violated kind p.travel) spots r.members
    ∙ sym (pair_amount p spots r kind is)
length-kind_faults p spots place r (MaxDays most) is = length-amount_faults place (rule_amount p spots r)
length-kind_faults p spots place r (MaxWeeks most) is = length-amount_faults place (rule_amount p spots r)
length-kind_faults p spots place r (MaxDayLoad most) is = length-amount_faults place (rule_amount p spots r)
length-kind_faults p spots place r (MaxBreaks breaks gap) is = length-amount_faults place (rule_amount p spots r)
length-kind_faults p spots place r (MaxBlock most gap) is = length-amount_faults place (rule_amount p spots r)

length-rule_faults : (p : Parts) (spots : List (Option Spot)) (place : ℕ) (r : Rule) → length (rule_faults p spots place r) ≡ rule_hard p spots r
unfolding rule_faults hard_of
length-rule_faults p spots place r = by r.required
  where
    by : (b : Bool) → length (cond b (kind_faults p spots place r r.kind) []) ≡ cond b (kind_hard r.kind (rule_amount p spots r)) 0
    by true = length-kind_faults p spots place r r.kind refl
    by false = refl

rules_from : (p : Parts) (spots : List (Option Spot)) (from : ℕ) (rules : List Rule) → ((i : ℕ) → slice_get p.rules (from + i) ≡ slice_get rules i)
    → sum_by (λ place. length (rule_faults_at p spots place)) (range_with_len from (length rules)) ≡ sum_by (rule_hard p spots) rules
unfolding rule_faults_at
rules_from p spots from [] same = refl
rules_from p spots from (r ∷ rules) same =
    let start : from + 0 ≡ from = omega arith in
    let at : slice_get p.rules from ≡ Some r = rw start at (same 0) in
    let here : length (rule_faults_at p spots from) ≡ rule_hard p spots r = ap (λ o. length (option_map_or (rule_faults p spots from) o [])) at ∙ length-rule_faults p spots from r in
    let rest = rules_from p spots (from + 1) rules (λ i. let e : from + suc i ≡ from + 1 + i = omega arith in rw e at (same (suc i))) in
    omega (arith, sum_by-cons (λ place. length (rule_faults_at p spots place)) from (range_with_len (from + 1) (length rules)), sum_by-cons (rule_hard p spots) r rules, here, rest)

length-all_rule_faults : (p : Parts) (spots : List (Option Spot)) → length (all_rule_faults p spots) ≡ hard_sum p spots
length-all_rule_faults p spots =
    length-flat_map (rule_faults_at p spots) (range_with_len 0 (length p.rules))
    ∙ rules_from p spots 0 p.rules (λ i. let e : 0 + i ≡ i = omega arith in rw e refl)

-- the hard violations of a plan are as many as the hard conflicts that the totals count
length-hard_violations : (p : Parts) (closures : List Closure) (plan : List (Option Value)) → length plan ≡ length p.classes
    → length (hard_violations p closures (spots_of p plan)) ≡ clash_pairs (spots_of p plan) + over_placed (closed_count p closures) plan + hard_sum p (spots_of p plan)
unfolding hard_violations
length-hard_violations p closures plan whole =
    let spots = spots_of p plan in
    omega (
      arith,
      length-append (clashes_of spots ++ closed_faults p closures spots) (all_rule_faults p spots),
      length-append (clashes_of spots) (closed_faults p closures spots),
      length-clashes_of spots,
      length-closed_faults p closures plan whole,
      length-all_rule_faults p spots,
    )

pub as_many_as_hard : (p : Parts) (closures : List Closure) (spots : List (Option Spot)) → AreAsManyAsHard p closures spots
as_many_as_hard p closures spots plan lists whole at =
    ap (λ (s : List (Option Spot)). length (hard_violations p closures s)) at ∙ length-hard_violations p closures plan whole

-- what is found after the listing's own faults is what the totals count as hard
pub hard_found : (p : Parts) (t : Timetable) (plan : List (Option Value)) (closures : List Closure) (spots : List (Option Spot)) (before after : List Violation) → plan ≡ published_plan p t → closures ≡ [] → spots ≡ spots_of p plan
    → after ≡ before ++ hard_violations p closures spots → AreAsManyAsHard p closures spots → length after - length before ≡ (timetable_totals p t).hard
hard_found p t plan closures spots before after planned none at grown hard =
    let whole : length (published_plan p t) ≡ length p.classes = length-map-range_with_len (published_value p t) 0 (length p.classes) in
    let counted : length (hard_violations p closures spots) ≡ (timetable_totals p t).hard =
    hard (published_plan p t) t.lists whole (at ∙ ap (spots_of p) planned) ∙ ap (λ (cs : List Closure). (totals_of p cs (published_plan p t) t.lists).hard) none in
    omega (arith, ap length grown, length-append before (hard_violations p closures spots), counted)
