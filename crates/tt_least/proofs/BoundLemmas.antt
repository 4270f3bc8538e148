-- What the choices of a node cost at least, by prices of groups of classes.
use Rattle.std.proofs.Common.{◌≡◌, ℕ, suc, ◌+◌, ◌-◌, ◌<◌, ◌≤◌, Bool, true, false, cond, ◌&&◌, List, [], ◌∷◌, length, get_or, sum, sum_by, take, All, None, Some, arith, refl, sym, ap, ◌∙◌, inl, inr, ◌⊎◌, get_or-set_other, get_or-set_same}
use Rattle.std.specs.Prelude.{nat_le, nat_lt, slice_get, slice_index_or, slice_set, IfSome}
use Rattle.std.proofs.Math.Seq.{take-set-lt}
use Rattle.std.proofs.lemmas.Bool.{and_parts, cases_eq}
use Rattle.std.proofs.lemmas.Bool.Decides.{nat_tests}
use Rattle.std.proofs.lemmas.List.{length-take-le, get_or-take}
use Rattle.std.proofs.lemmas.List.Sums.{sum_by-cons, sum_by-set, get_or-le-sum_by, AllPass-from_list_all}
use Rattle.std.proofs.lemmas.Option.{slice_get-get_or, slice_get_within}
use Rattle.tt_problem.specs.declared.parts.Span.{Span}
use Rattle.tt_least.specs.declared.table.Table.{Table}
use Rattle.tt_least.specs.declared.level.Level.{Level}
use Rattle.tt_least.specs.declared.groups.Groups.{Groups}
use Rattle.tt_least.specs.declared.narrow.Bound.{Bound}
use Rattle.tt_least.specs.Judged.{IsIn, IsTable, conflict_in, is_flagged, pairs_in}
use Rattle.tt_least.specs.Nodes.{HasPlaces, IsNode, IsOf, pair_to_come, weight_at}
use Rattle.tt_least.specs.Prices.{AreGroups, AreLeast, IsBound, group_in, owed_of, priced_at}
use Rattle.tt_least.specs.Results.{IsInVain}
use Rattle.tt_least.proofs.ChoiceLemmas.{choice-at, choice-in, choice-long, span-within, spans-ordered}
use Rattle.tt_least.proofs.OptionLemmas.{if-some}
use Rattle.tt_least.proofs.PriceLemmas.{owed-few, price_of, prices-paid}

-- no class of the subpart at a place that is left costs less than so much
abbrev pub IsLeastAt : Table → Groups → Level → (k c least : ℕ) → Type 0
IsLeastAt t g l k c least = IfSome (slice_get t.subparts.now k) (λ s. s.first ≤ c → c < s.after → is_flagged t l.left.items c ≡ true → least ≤ priced_at t g l c)

-- the least of one more subpart, put next to those of the subparts before it
pub least-more : (t : Table) (g : Groups) (l : Level) (leasts : List ℕ) (i least : ℕ) → i < length leasts → ((k c : ℕ) → k < i → IsLeastAt t g l k c (get_or leasts k 0))
    → ((c : ℕ) → IsLeastAt t g l i c least) → (k c : ℕ) → k < i + 1 → IsLeastAt t g l k c (get_or (slice_set leasts i least) k 0)
least-more t g l leasts i least within before here k c below = by_place (cases_eq k i)
  where
    by_place : (k ≡ i) ⊎ (k ≡ i → ⊥) → IsLeastAt t g l k c (get_or (slice_set leasts i least) k 0)
    by_place (inl e) =
        let new : get_or (slice_set leasts i least) i 0 ≡ least = get_or-set_same leasts i least 0 within in
        rw (e, new) (here c)
    by_place (inr ne) =
        let old : get_or (slice_set leasts i least) k 0 ≡ get_or leasts k 0 = get_or-set_other leasts i k least 0 ne in
        rw old (before k c (omega arith))

-- no class of the subpart at a place that is left costs less than is written for it
abbrev pub IsCostAt : Table → Groups → Level → List ℕ → (k c : ℕ) → Type 0
IsCostAt t g l costs k c = IfSome (slice_get t.subparts.now k) (λ s. s.first ≤ c → c < s.after → is_flagged t l.left.items c ≡ true → get_or costs (c - t.first) 0 ≤ priced_at t g l c)

-- what is written for the classes of earlier subparts, and for those of one more, where nothing before its span changes
pub costs-more : (t : Table) (g : Groups) (l : Level) (old new : List ℕ) (i : ℕ) (s : Span) → IsTable t → slice_get t.subparts.now i ≡ Some s
    → ((k c : ℕ) → k < i → get_or l.chosen.items k None ≡ None → IsCostAt t g l old k c)
    → ((j : ℕ) → j < s.first - t.first → get_or new j 0 ≡ get_or old j 0)
    → ((c : ℕ) → s.first ≤ c → c < s.after → is_flagged t l.left.items c ≡ true → get_or new (c - t.first) 0 ≤ priced_at t g l c)
    → (k c : ℕ) → k < i + 1 → get_or l.chosen.items k None ≡ None → IsCostAt t g l new k c
costs-more t g l old new i s table there before kept here k c below come = by_place (cases_eq k i)
  where
    earlier : k < i → (r : Span) → slice_get t.subparts.now k ≡ Some r → r.first ≤ c → c < r.after → is_flagged t l.left.items c ≡ true → get_or new (c - t.first) 0 ≤ priced_at t g l c
    earlier less r at from end left =
        let was = rw at at (before k c less come) in
        let ordered = spans-ordered t.first (t.first + t.count) t.subparts.now k i r s table.apart at there less in
        let within = span-within t.first (t.first + t.count) t.subparts.now k r table.apart at in
        let same : get_or new (c - t.first) 0 ≡ get_or old (c - t.first) 0 = kept (c - t.first) (omega (arith, ordered, within.0, from, end)) in
        rw same (was from end left)

    by_place : (k ≡ i) ⊎ (k ≡ i → ⊥) → IsCostAt t g l new k c
    by_place (inl e) = rw (e, there) (λ from end left. here c from end left)
    by_place (inr ne) = if-some (slice_get t.subparts.now k) (λ r. r.first ≤ c → c < r.after → is_flagged t l.left.items c ≡ true → get_or new (c - t.first) 0 ≤ priced_at t g l c) (earlier (omega (arith, ne, below)))

-- the span of a subpart lies within the table
pub span-there : (t : Table) → IsTable t → (k : ℕ) → k < length t.subparts.now
    → (slice_get t.subparts.now k ≡ Some (get_or t.subparts.now k (record { first = 0; after = 0 })))
    × (t.first ≤ (get_or t.subparts.now k (record { first = 0; after = 0 })).first)
    × ((get_or t.subparts.now k (record { first = 0; after = 0 })).after ≤ t.first + t.count)
span-there t table k below =
    let there : slice_get t.subparts.now k ≡ Some (get_or t.subparts.now k (record { first = 0; after = 0 })) = slice_get-get_or t.subparts.now k (record { first = 0; after = 0 }) below in
    let within = span-within t.first (t.first + t.count) t.subparts.now k (get_or t.subparts.now k (record { first = 0; after = 0 })) table.apart there in
    (there, within.0, within.2)

-- the sum of a list's front is no more than what another list's items come to, where each number is no more than what the item there does
pub front-below : (f : ℕ → ℕ) (leasts choice : List ℕ) → ((k : ℕ) → k < length choice → get_or leasts k 0 ≤ f (get_or choice k 0))
    → sum (take (length choice) leasts) ≤ sum_by f choice
front-below f leasts [] each = omega arith
front-below f [] (c ∷ choice) each = omega arith
front-below f (x ∷ leasts) (c ∷ choice) each =
    let first : x ≤ f c = each 0 (omega arith) in
    let rest = front-below f leasts choice (λ k below. each (suc k) (omega arith)) in
    omega (arith, first, rest, sum_by-cons (λ (n : ℕ). n) x (take (length choice) leasts), sum_by-cons f c choice)

-- a number at a place of a list's front is no more than the front's sum
front-has : (leasts : List ℕ) (n k : ℕ) → k < n → n ≤ length leasts → get_or leasts k 0 ≤ sum (take n leasts)
front-has leasts n k below within =
    let there : k < length (take n leasts) = rw (length-take-le n leasts within) below in
    let item : get_or (take n leasts) k 0 ≡ get_or leasts k 0 = get_or-take n leasts k 0 below in
    omega (arith, item, get_or-le-sum_by (λ (x : ℕ). x) (take n leasts) k 0 there)

-- the sum of a list's front with another number at a place of it
front-set : (leasts : List ℕ) (n k v : ℕ) → k < n → n ≤ length leasts → sum (take n (slice_set leasts k v)) + get_or leasts k 0 ≡ sum (take n leasts) + v
front-set leasts n k v below within =
    let there : k < length (take n leasts) = rw (length-take-le n leasts within) below in
    let put = sum_by-set (λ (x : ℕ). x) (take n leasts) k v 0 there in
    let front : take n (slice_set leasts k v) ≡ slice_set (take n leasts) k v = take-set-lt n leasts k v below in
    let item : get_or (take n leasts) k 0 ≡ get_or leasts k 0 = get_or-take n leasts k 0 below in
    rw front (omega (arith, put, item))

-- numbers that are no more than what the items of a list come to still are with what an item comes to in its place
set-below : (f : ℕ → ℕ) (leasts choice : List ℕ) (k : ℕ) → k < length leasts → ((j : ℕ) → j < length choice → get_or leasts j 0 ≤ f (get_or choice j 0))
    → (j : ℕ) → j < length choice → get_or (slice_set leasts k (f (get_or choice k 0))) j 0 ≤ f (get_or choice j 0)
set-below f leasts choice k within each j below = by_place (cases_eq j k)
  where
    by_place : (j ≡ k) ⊎ (j ≡ k → ⊥) → get_or (slice_set leasts k (f (get_or choice k 0))) j 0 ≤ f (get_or choice j 0)
    by_place (inl e) =
        let new : get_or (slice_set leasts k (f (get_or choice k 0))) k 0 ≡ f (get_or choice k 0) = get_or-set_same leasts k (f (get_or choice k 0)) 0 within in
        rw (e, new) (omega arith)
    by_place (inr ne) =
        let old : get_or (slice_set leasts k (f (get_or choice k 0))) j 0 ≡ get_or leasts j 0 = get_or-set_other leasts k j (f (get_or choice k 0)) 0 ne in
        rw old (each j below)

module _ (t : Table) (g : Groups) (l : Level) where
  -- a class of the table that is still to come
  abbrev comes : ℕ → Bool
  comes c = (nat_le t.first c && nat_lt c (t.first + t.count)) && is_flagged t l.to_come.items c

  -- the group of a class that is still to come, and none of another one
  abbrev group_to_come : ℕ → ℕ
  group_to_come c = cond (comes c) (group_in t g c) t.size

  -- a class of the table that is flagged is still to come
  comes-from : (c : ℕ) → IsIn t c → is_flagged t l.to_come.items c ≡ true → comes c ≡ true
  comes-from c within flagged =
      let from : nat_le t.first c ≡ true = grind (arith, nat_tests, within.0) in
      let below : nat_lt c (t.first + t.count) ≡ true = grind (arith, nat_tests, within.1) in
      rw (from, below, flagged) refl

  -- a class that is still to come is one of the table's, and flagged
  comes-in : (c : ℕ) → comes c ≡ true → (IsIn t c) × (is_flagged t l.to_come.items c ≡ true)
  comes-in c e =
      let two = and_parts (nat_le t.first c && nat_lt c (t.first + t.count)) (is_flagged t l.to_come.items c) e in
      let within = and_parts (nat_le t.first c) (nat_lt c (t.first + t.count)) two.0 in
      ((grind (arith, nat_tests, within.0), grind (arith, nat_tests, within.1)), two.1)

  -- a class that is in a group is still to come
  in-group : (c : ℕ) → group_to_come c < t.size → (comes c ≡ true) × (group_to_come c ≡ group_in t g c)
  in-group c below = by_test (comes c) refl
    where
      by_test : (b : Bool) → comes c ≡ b → (comes c ≡ true) × (group_to_come c ≡ group_in t g c)
      by_test true e = (e, rw e refl)
      by_test false e =
          let out : group_to_come c ≡ t.size = rw e refl in
          absurd (omega (arith, out))

  -- two classes of a group that are still to come are a pair to come
  groups-conflict : AreGroups t g → (c d : ℕ) → group_to_come c < t.size → group_to_come c ≡ group_to_come d → pair_to_come t l c d ≡ true
  groups-conflict groups c d below same =
      let one = in-group c below in
      let other = in-group d (omega (arith, same)) in
      let first = comes-in c one.0 in
      let second = comes-in d other.0 in
      let alike : group_in t g c ≡ group_in t g d = sym one.1 ∙ same ∙ other.1 in
      let pair : conflict_in t c d ≡ true = groups.each c d first.0 second.0 alike in
      rw (pair, first.1, second.1) refl

  -- what a class costs with its price is what it costs and its price, where it is still to come
  priced-split : (c : ℕ) → IsIn t c → priced_at t g l c ≤ weight_at t l c + price_of group_to_come g.prices.items c
  priced-split c within = by_flag (is_flagged t l.to_come.items c) refl
    where
      by_flag : (b : Bool) → is_flagged t l.to_come.items c ≡ b → priced_at t g l c ≤ weight_at t l c + price_of group_to_come g.prices.items c
      by_flag true e = rw (comes-from c within e, e) (omega arith)
      by_flag false e = rw e (omega arith)

  -- what classes cost with their prices is no more than what they cost and their prices
  priced-all : (choice : List ℕ) → All (IsIn t) choice → sum_by (priced_at t g l) choice ≤ sum_by (weight_at t l) choice + sum_by (price_of group_to_come g.prices.items) choice
  priced-all [] within = omega arith
  priced-all (c ∷ choice) within =
      let one = priced-split c (within 0 0 (omega arith)) in
      let rest = priced-all choice (λ k d below. within (suc k) d (omega arith)) in
      omega (arith, one, rest, sum_by-cons (priced_at t g l) c choice, sum_by-cons (weight_at t l) c choice, sum_by-cons (price_of group_to_come g.prices.items) c choice)

  -- what a choice of the node costs with its prices is no more than its pairs and what is owed
  pub choice-priced : IsTable t → AreGroups t g → IsNode t l → (choice : List ℕ) → IsOf t l choice
      → l.pairs + sum_by (priced_at t g l) choice ≤ pairs_in t choice + owed_of g.prices.items
  choice-priced table groups node choice of =
      let within : All (IsIn t) choice = choice-in t choice table of.is_left.one_of_each in
      let split = priced-all choice within in
      let counted = node.counted choice of in
      let paid = prices-paid (pair_to_come t l) group_to_come t.size (groups-conflict groups) choice g.prices.items (omega (arith, groups.room.prices)) in
      omega (arith, split, counted, paid)

  -- the least of a subpart is no more than what the class of it in a choice of the node costs
  pub least-under : (leasts : List ℕ) → AreLeast t g l leasts → (choice : List ℕ) → IsOf t l choice → (k : ℕ) → k < length choice
      → get_or leasts k 0 ≤ priced_at t g l (get_or choice k 0)
  least-under leasts least choice of k below =
      let long = choice-long t.subparts.now choice of.is_left.one_of_each in
      let s : Span = get_or t.subparts.now k (record { first = 0; after = 0 }) in
      let there : slice_get t.subparts.now k ≡ Some s = slice_get-get_or t.subparts.now k (record { first = 0; after = 0 }) (omega (arith, long)) in
      let bounds = choice-at t.subparts.now choice k s of.is_left.one_of_each there in
      let flagged : is_flagged t l.left.items (get_or choice k 0) ≡ true = AllPass-from_list_all (is_flagged t l.left.items) choice of.is_left.are_left k 0 below in
      let each = rw there at (least.each k (get_or choice k 0)) in
      each bounds.0 bounds.1 flagged

-- a node whose bound is above the limit is in vain
pub bound-vain : (t : Table) (g : Groups) (l : Level) (b : Bound) (limit : ℕ) → IsTable t → HasPlaces t.size l → AreGroups t g → IsNode t l → IsBound t g l b
    → limit < b.sum - b.owed → IsInVain t l limit
bound-vain t g l b limit table places groups node bound above = record {
  each = λ choice of allowed.
      let long = choice-long t.subparts.now choice of.is_left.one_of_each in
      let leasts : sum (take (length choice) b.leasts.now) ≤ sum_by (priced_at t g l) choice = front-below (priced_at t g l) b.leasts.now choice (least-under t g l b.leasts.now bound.leasts choice of) in
      let under : sum (take (length t.subparts.now) b.leasts.now) ≤ sum_by (priced_at t g l) choice = rw (← long) leasts in
      omega (arith, above, under, choice-priced t g l table groups node choice of, bound.sum, bound.owed);
}

-- a choice of the node has more pairs than the limit where its class of a subpart is too dear
pub dear : (t : Table) (g : Groups) (l : Level) (b : Bound) (limit k c : ℕ) (s : Span) → IsTable t → HasPlaces t.size l → AreGroups t g → IsNode t l → IsBound t g l b
    → slice_get t.subparts.now k ≡ Some s → limit < ((b.sum - slice_index_or b.leasts.now k 0) + priced_at t g l c) - b.owed
    → (choice : List ℕ) → IsOf t l choice → slice_index_or choice k 0 ≡ c → limit < pairs_in t choice
dear t g l b limit k c s table places groups node bound there above choice of is =
    let long = choice-long t.subparts.now choice of.is_left.one_of_each in
    let below : k < length t.subparts.now = slice_get_within t.subparts.now k s there in
    let f = priced_at t g l in
    let old = b.leasts.now in
    let new = slice_set old k (f (get_or choice k 0)) in
    let n = length choice in
    let within : n ≤ length old = omega (arith, long, table.few, bound.leasts.long) in
    let each = set-below f old choice k (omega (arith, long, below, within)) (least-under t g l old bound.leasts choice of) in
    let leasts : sum (take n new) ≤ sum_by f choice = front-below f new choice each in
    let put : sum (take n new) + get_or old k 0 ≡ sum (take n old) + f (get_or choice k 0) = front-set old n k (f (get_or choice k 0)) (omega (arith, long, below)) within in
    let has : get_or old k 0 ≤ sum (take n old) = front-has old n k (omega (arith, long, below)) within in
    let whole : sum (take (length t.subparts.now) old) ≡ sum (take n old) = rw long refl in
    let price : f (get_or choice k 0) ≡ f c = ap f is in
    omega (arith, above, leasts, put, has, whole, price, choice-priced t g l table groups node choice of, bound.sum, bound.owed)

-- what is owed for the prices of a table's groups is small
pub owed-small : (t : Table) (g : Groups) → IsTable t → AreGroups t g → owed_of g.prices.items ≤ 1099494850560
owed-small t g table groups = omega (arith, owed-few g.prices.items groups.few, groups.room.prices, table.sized.small)
