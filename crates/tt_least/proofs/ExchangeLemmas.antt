-- Lists with another item at one place, and choices in which one class stands for another of its subpart.
use Rattle.std.proofs.Common.{◌≡◌, ℕ, zero, suc, ◌+◌, ◌-◌, ◌<◌, ◌≤◌, Bool, true, false, cond, ◌||◌, List, [], ◌∷◌, Option, Some, None, length, get_or, arith, refl, ap, subst, ◌∙◌, inl, inr}
use Rattle.std.specs.Prelude.{◌≢◌, slice_get, slice_set, sum_by, count_by, nat_eq}
use Rattle.std.specs.List.{list_all, list_any, AllByRecursion}
use Rattle.std.specs.Option.{option_map_or}
use Rattle.std.proofs.lemmas.Bool.{and_parts, cases_Bool, eqb-true, eqb-false}
use Rattle.std.proofs.lemmas.Bool.Decides.{nat_tests}
use Rattle.std.proofs.lemmas.List.{set-get_or, get_or-set_other, length-set}
use Rattle.std.proofs.lemmas.List.Sums.{sum_by-set, sum_by-cons, AllPass-from_list_all}
use Rattle.std.proofs.lemmas.Option.{slice_get_within, get_or_from_slice_get, slice_get-get_or}
use Rattle.tt_base.specs.Among.{pairs_among}
use Rattle.tt_base.specs.Lists.{is_listed}
use Rattle.tt_problem.specs.declared.parts.Span.{Span}
use Rattle.tt_problem.specs.Spans.{is_in}
use Rattle.tt_least.specs.declared.table.Table.{Table}
use Rattle.tt_least.specs.Choices.{IsChoice, AreApart}
use Rattle.tt_least.specs.Judged.{IsTable, IsIn, conflict_in, weight_in, parent_in, is_flagged, has_parent, is_allowed, pairs_in}
use Rattle.tt_least.specs.Nodes.{IsLeft}
use Rattle.tt_least.specs.Results.{NoneWithin}
use Rattle.tt_least.specs.Dominates.{IsNoParent, Dominates, IsDominated}
use Rattle.tt_least.proofs.ChoiceLemmas.{apart-ordered, span-within, choice-long, choice-at, choice-set}

-- what holds of each item of a list but the one at a place
abbrev pub EachBut : {X : Type 0} → (X → Type 0) → List X → ℕ → Type 0
EachBut P [] k = Unit {0}
EachBut P (x ∷ xs) zero = AllByRecursion P xs
EachBut P (x ∷ xs) (suc k) = P x × EachBut P xs k

-- what follows from what holds of each item holds of each
pub each-so : {X : Type 0} (P Q : X → Type 0) → ((x : X) → P x → Q x) → (xs : List X) → AllByRecursion P xs → AllByRecursion Q xs
each-so P Q so [] each = tt
each-so P Q so (x ∷ xs) each = (so x each.0, each-so P Q so xs each.1)

-- and so it does for each item but the one at a place
pub each-but-so : {X : Type 0} (P Q : X → Type 0) → ((x : X) → P x → Q x) → (xs : List X) (k : ℕ) → EachBut P xs k → EachBut Q xs k
each-but-so P Q so [] k each = tt
each-but-so P Q so (x ∷ xs) zero each = each-so P Q so xs each
each-but-so P Q so (x ∷ xs) (suc k) each = (so x each.0, each-but-so P Q so xs k each.1)

-- what holds of all holds of each item
pub all-so : {X : Type 0} (P : X → Type 0) → ((x : X) → P x) → (xs : List X) → AllByRecursion P xs
all-so P so [] = tt
all-so P so (x ∷ xs) = (so x, all-so P so xs)

-- where each item that passes one test passes the other, a list of items that pass the one is of items that pass the other
pub pass-each : {X : Type 0} (f g : X → Bool) (xs : List X) → AllByRecursion (λ x. f x ≡ true → g x ≡ true) xs → list_all f xs ≡ true → list_all g xs ≡ true
pass-each f g [] each pass = refl
pass-each f g (x ∷ xs) each pass =
    let parts = and_parts (f x) (list_all f xs) pass in
    rw (each.0 parts.0) (pass-each f g xs each.1 parts.1)

-- the same with another item at one place
pub pass-set : {X : Type 0} (f g : X → Bool) (xs : List X) (k : ℕ) (one : X) → EachBut (λ x. f x ≡ true → g x ≡ true) xs k → g one ≡ true
    → list_all f xs ≡ true → list_all g (slice_set xs k one) ≡ true
pass-set f g [] k one each is pass = refl
pass-set f g (x ∷ xs) zero one each is pass =
    let parts = and_parts (f x) (list_all f xs) pass in
    rw is (pass-each f g xs each parts.1)
pass-set f g (x ∷ xs) (suc k) one each is pass =
    let parts = and_parts (f x) (list_all f xs) pass in
    rw (each.0 parts.0) (pass-set f g xs k one each.1 is parts.1)

-- what is listed stays listed where another number is written over
pub listed-set : (n : ℕ) (xs : List ℕ) (k c one : ℕ) → slice_get xs k ≡ Some c → n ≢ c → is_listed n xs ≡ true → is_listed n (slice_set xs k one) ≡ true
listed-set n [] k c one there apart has = absurd (cc there)
listed-set n (x ∷ xs) zero c one there apart has =
    let same : x ≡ c = cc in
    elim (cases_Bool (nat_eq n x)) [
      | inl is ↦ absurd (apart (cc (eqb-true n x is)))
      | inr isnt ↦ let later : list_any (nat_eq n) xs ≡ true = rw isnt at has in rw later (or-true (nat_eq n one))
    ]
  where
    or-true : (b : Bool) → (b || true) ≡ true
    or-true true = refl
    or-true false = refl
listed-set n (x ∷ xs) (suc k) c one there apart has =
    elim (cases_Bool (nat_eq n x)) [
      | inl is ↦ rw is refl
      | inr isnt ↦ let later : list_any (nat_eq n) xs ≡ true = rw isnt at has in rw isnt (listed-set n xs k c one there apart later)
    ]

-- a sum is no more where the item at a place is no more
pub sum-set-le : {X : Type 0} (f : X → ℕ) (xs : List X) (k : ℕ) (c one : X) → slice_get xs k ≡ Some c → f one ≤ f c → sum_by f (slice_set xs k one) ≤ sum_by f xs
sum-set-le f xs k c one there le =
    omega (arith, sum_by-set f xs k one c (slice_get_within xs k c there), ap f (get_or_from_slice_get xs k c c there))

-- a test that passes only where another does counts no more at one item
one-fewer : (p q : Bool) → (p ≡ true → q ≡ true) → cond p 1 0 ≤ cond q 1 0
one-fewer false q so = omega arith
one-fewer true q so = rw (so refl) (omega arith)

-- and no more over a list
pub count-fewer : {X : Type 0} (p q : X → Bool) (xs : List X) → AllByRecursion (λ x. p x ≡ true → q x ≡ true) xs → count_by p xs ≤ count_by q xs
count-fewer p q [] each = omega arith
count-fewer {X} p q (x ∷ xs) each =
    let a = sum_by-cons (λ (y : X). cond (p y) 1 0) x xs in
    let b = sum_by-cons (λ (y : X). cond (q y) 1 0) x xs in
    omega (arith, a, b, one-fewer (p x) (q x) each.0, count-fewer p q xs each.1)

-- a list with another item at a place has no more pairs where each other item that is related to the new one was to the old, both ways
pub pairs-set-le : {X : Type 0} (r : X → X → Bool) (xs : List X) (k : ℕ) (c one : X) → slice_get xs k ≡ Some c
    → EachBut (λ x. (r one x ≡ true → r c x ≡ true) × (r x one ≡ true → r x c ≡ true)) xs k
    → pairs_among r (slice_set xs k one) ≤ pairs_among r xs
pairs-set-le r [] k c one there each = absurd (cc there)
pairs-set-le {X} r (x ∷ xs) zero c one there each =
    let same : x ≡ c = cc in
    let fewer : count_by (r one) xs ≤ count_by (r c) xs = count-fewer (r one) (r c) xs (each-so _ (λ y. r one y ≡ true → r c y ≡ true) (λ y both. both.0) xs each) in
    rw same (omega (arith, fewer))
pairs-set-le {X} r (x ∷ xs) (suc k) c one there each =
    let fewer : count_by (r x) (slice_set xs k one) ≤ count_by (r x) xs = sum-set-le (λ (y : X). cond (r x y) 1 0) xs k c one there (one-fewer (r x one) (r x c) each.0.1) in
    omega (arith, fewer, pairs-set-le r xs k c one there each.1)

-- a flag that is set where another one was cleared was set before
pub still-set : (flags : List Bool) (i j : ℕ) → get_or (slice_set flags i false) j false ≡ true → get_or flags j false ≡ true
still-set [] i j is = is
still-set (x ∷ flags) zero zero is = absurd (cc is)
still-set (x ∷ flags) zero (suc j) is = is
still-set (x ∷ flags) (suc i) zero is = is
still-set (x ∷ flags) (suc i) (suc j) is = still-set flags i j is

-- fewer classes are left, and nothing that is sought is lost
pub record IsPruned (t : Table) (old new : List Bool) : Type 0 where
  pub long : length new ≡ length old
  pub within : (choice : List ℕ) → IsLeft t new choice → IsLeft t old choice
  pub none : (limit : ℕ) → NoneWithin t new limit → NoneWithin t old limit

-- one such step after another is one
pub pruned-trans : (t : Table) (first second third : List Bool) → IsPruned t first second → IsPruned t second third → IsPruned t first third
pruned-trans t first second third a b = record {
  long = omega (arith, a.long, b.long);
  within = λ choice h. a.within choice (b.within choice h);
  none = λ limit h. a.none limit (b.none limit h);
}

-- the span read where there is none
abbrev pub no-span : Span
no-span = record { first = 0; after = 0 }

-- a class of the table that is left, and is not of the span
pub record IsElsewhere (t : Table) (left : List Bool) (s : Span) (d : ℕ) : Type 0 where
  pub within : IsIn t d
  pub outside : is_in d s ≡ false
  pub is_left : is_flagged t left d ≡ true

module _ (t : Table) (left : List Bool) (s : Span) where
  -- what comes before the span, or after it, is not of it
  before-span : (d : ℕ) → d < s.first → is_in d s ≡ false
  before-span d less = grind (arith, nat_tests)

  after-span : (d : ℕ) → s.after ≤ d → is_in d s ≡ false
  after-span d past = grind (arith, nat_tests)

  -- the classes of a choice from subparts after the span
  elsewhere-after : (first after : ℕ) (subparts : List Span) (choice : List ℕ) → AreApart first subparts after → t.first ≤ first → after ≤ t.first + t.count → s.after ≤ first
      → IsChoice subparts choice → list_all (is_flagged t left) choice ≡ true → AllByRecursion (IsElsewhere t left s) choice
  elsewhere-after first after [] [] apart low high past one pass = tt
  elsewhere-after first after [] (c ∷ choice) apart low high past one pass = absurd one
  elsewhere-after first after (r ∷ subparts) [] apart low high past one pass = absurd one
  elsewhere-after first after (r ∷ subparts) (c ∷ choice) apart low high past one pass =
      let parts = and_parts (is_flagged t left c) (list_all (is_flagged t left) choice) pass in
      let end = apart-ordered r.after after subparts apart.2 in (
        record { within = (omega (arith, apart.0, one.0), omega (arith, one.1, end)); outside = after-span c (omega (arith, apart.0, one.0)); is_left = parts.0 },
        elsewhere-after r.after after subparts choice apart.2 (omega (arith, apart.0, apart.1)) high (omega (arith, apart.0, apart.1)) one.2 parts.1,
      )

  -- the classes of a choice but that of the span
  pub elsewhere-but : (first after : ℕ) (subparts : List Span) (choice : List ℕ) (k : ℕ) → AreApart first subparts after → t.first ≤ first → after ≤ t.first + t.count
      → slice_get subparts k ≡ Some s → IsChoice subparts choice → list_all (is_flagged t left) choice ≡ true → EachBut (IsElsewhere t left s) choice k
  elsewhere-but first after [] choice k apart low high there one pass = absurd (cc there)
  elsewhere-but first after (r ∷ subparts) [] k apart low high there one pass = absurd one
  elsewhere-but first after (r ∷ subparts) (c ∷ choice) zero apart low high there one pass =
      let same : r ≡ s = cc in
      let past : s.after ≤ r.after = rw same (omega arith) in
      let parts = and_parts (is_flagged t left c) (list_all (is_flagged t left) choice) pass in
      elsewhere-after r.after after subparts choice apart.2 (omega (arith, apart.0, apart.1)) high past one.2 parts.1
  elsewhere-but first after (r ∷ subparts) (c ∷ choice) (suc k) apart low high there one pass =
      let parts = and_parts (is_flagged t left c) (list_all (is_flagged t left) choice) pass in
      let end = apart-ordered r.after after subparts apart.2 in
      let later = span-within r.after after subparts k s apart.2 there in (
        record { within = (omega (arith, apart.0, one.0), omega (arith, one.1, end)); outside = before-span c (omega (arith, one.1, later.0)); is_left = parts.0 },
        elsewhere-but r.after after subparts choice k apart.2 (omega (arith, apart.0, apart.1)) high there one.2 parts.1,
      )

-- a class that is not of a span is another one than each of the span's
apart-from : (d c : ℕ) (s : Span) → is_in d s ≡ false → s.first ≤ c → c < s.after → d ≢ c
apart-from d c s outside from below same = grind (arith, nat_tests)

-- the flag of another class stays
other-flag : (t : Table) (left : List Bool) (c d : ℕ) → t.first ≤ c → t.first ≤ d → d ≢ c → is_flagged t (slice_set left (c - t.first) false) d ≡ is_flagged t left d
other-flag t left c d low below apart =
    let other : d - t.first ≢ c - t.first = λ same. apart (omega arith) in
    get_or-set_other left (c - t.first) (d - t.first) false false other

-- a class keeps its parent in a choice in which no parent is exchanged
keeps-parent : (t : Table) (choice : List ℕ) (k c one d : ℕ) → slice_get choice k ≡ Some c → parent_in t d ≢ Some c → has_parent t choice d ≡ true → has_parent t (slice_set choice k one) d ≡ true
keeps-parent t choice k c one d there isnt has = keeps (parent_in t d) isnt has
  where
    keeps : (o : Option ℕ) → o ≢ Some c → option_map_or (λ p. is_listed p choice) o true ≡ true → option_map_or (λ p. is_listed p (slice_set choice k one)) o true ≡ true
    keeps None isnt has = refl
    keeps (Some p) isnt has = listed-set p choice k c one there (λ same. isnt (ap Some same)) has

module _ (t : Table) (table : IsTable t) (left : List Bool) (k : ℕ) (s : Span) (part : slice_get t.subparts.now k ≡ Some s) (c : ℕ) (from : s.first ≤ c) (below : c < s.after) where
  -- the span lies within the table
  within-table : (t.first ≤ s.first) × (s.first ≤ s.after) × (s.after ≤ t.first + t.count)
  within-table = span-within t.first (t.first + t.count) t.subparts.now k s table.apart part

  -- and so does each class of it
  in-table : (d : ℕ) → s.first ≤ d → d < s.after → IsIn t d
  in-table d from_d below_d = (omega (arith, within-table.0), omega (arith, within-table.2))

  -- the classes of a choice of what is left but that of the span
  others : (choice : List ℕ) → IsLeft t left choice → EachBut (IsElsewhere t left s) choice k
  others choice is =
      elsewhere-but t left s t.first (t.first + t.count) t.subparts.now choice k table.apart (omega arith) (omega arith) part is.one_of_each is.are_left

  -- a class of another subpart that is left stays so
  stays : (d : ℕ) → IsElsewhere t left s d → is_flagged t left d ≡ true → is_flagged t (slice_set left (c - t.first) false) d ≡ true
  stays d is set =
      rw (other-flag t left c d (omega (arith, within-table.0)) is.within.0 (apart-from d c s is.outside from below)) set

  -- a choice with another class that is left in the place of the class
  exchanged : (choice : List ℕ) (one : ℕ) → IsLeft t left choice → s.first ≤ one → one < s.after → one ≢ c → is_flagged t left one ≡ true → IsLeft t (slice_set left (c - t.first) false) (slice_set choice k one)
  exchanged choice one is from_one below_one apart set =
      let flags = slice_set left (c - t.first) false in
      record {
        one_of_each = choice-set t.subparts.now choice k one s is.one_of_each part from_one below_one;
        are_left = pass-set (is_flagged t left) (is_flagged t flags) choice k one
            (each-but-so (IsElsewhere t left s) (λ d. is_flagged t left d ≡ true → is_flagged t flags d ≡ true) stays choice k (others choice is))
            (rw (other-flag t left c one (omega (arith, within-table.0)) (omega (arith, within-table.0)) apart) set) is.are_left;
      }

  -- where one class conflicts with no more than another, a choice that has it in the place of the other has no more pairs
  no-more-pairs : (choice : List ℕ) (one : ℕ) → IsLeft t left choice → slice_get choice k ≡ Some c → s.first ≤ one → one < s.after → Dominates t left s one c
      → pairs_in t (slice_set choice k one) ≤ pairs_in t choice
  no-more-pairs choice one is there from_one below_one dominates =
      let weights = sum-set-le (weight_in t) choice k c one there dominates.lighter in
      let pairs = pairs-set-le (conflict_in t) choice k c one there
      (each-but-so (IsElsewhere t left s) (λ d. (conflict_in t one d ≡ true → conflict_in t c d ≡ true) × (conflict_in t d one ≡ true → conflict_in t d c ≡ true)) both choice k (others choice is)) in
      omega (arith, weights, pairs)
    where
      forth : (d : ℕ) → IsElsewhere t left s d → conflict_in t one d ≡ true → conflict_in t c d ≡ true
      forth d far hit = dominates.fewer d far.within far.outside far.is_left hit

      back : (d : ℕ) → IsElsewhere t left s d → conflict_in t d one ≡ true → conflict_in t d c ≡ true
      back d far hit =
          table.both_ways.both_ways d c far.within (in-table c from below)
          ∙ forth d far (table.both_ways.both_ways one d (in-table one from_one below_one) far.within ∙ hit)

      both : (d : ℕ) → IsElsewhere t left s d → (conflict_in t one d ≡ true → conflict_in t c d ≡ true) × (conflict_in t d one ≡ true → conflict_in t d c ≡ true)
      both d far = (forth d far, back d far)

  -- an allowed choice stays so where a class that has no parent stands for one that is no parent
  still-allowed : (choice : List ℕ) (one : ℕ) → IsLeft t left choice → slice_get choice k ≡ Some c → IsNoParent t c → parent_in t one ≡ None
      → is_allowed t choice ≡ true → is_allowed t (slice_set choice k one) ≡ true
  still-allowed choice one is there no_parent alone allowed =
      pass-set (has_parent t choice) (has_parent t (slice_set choice k one)) choice k one
      (each-but-so (IsElsewhere t left s) (λ d. has_parent t choice d ≡ true → has_parent t (slice_set choice k one) d ≡ true)
      (λ d far has. keeps-parent t choice k c one d there (no_parent.each d far.within) has) choice k (others choice is))
      (rw alone refl) allowed

  -- what is left without a class has the choices of before that don't have it
  without : (choice : List ℕ) → IsLeft t left choice → get_or choice k 0 ≢ c → IsLeft t (slice_set left (c - t.first) false) choice
  without choice is apart =
      let spot = choice-at t.subparts.now choice k s is.one_of_each part in
      let short : k < length choice = omega (arith, choice-long t.subparts.now choice is.one_of_each, slice_get_within t.subparts.now k s part) in
      let set = AllPass-from_list_all (is_flagged t left) choice is.are_left k 0 short in
      let flags = slice_set left (c - t.first) false in
      let P : List ℕ → Type 0 = λ l. IsLeft t flags l in
      subst P (set-get_or choice k 0) (exchanged choice (get_or choice k 0) is spot.0 spot.1 apart set)

  -- each choice with a class for which another one can stand has one without it that is as good
  more-than : (limit : ℕ) → IsDominated t left s c → NoneWithin t (slice_set left (c - t.first) false) limit
      → (choice : List ℕ) → IsLeft t left choice → is_allowed t choice ≡ true → limit < pairs_in t choice
  more-than limit gone none choice is allowed =
      let short : k < length choice = omega (arith, choice-long t.subparts.now choice is.one_of_each, slice_get_within t.subparts.now k s part) in
      elim (cases_Bool (nat_eq (get_or choice k 0) c)) [
        | inl same ↦
            let there : slice_get choice k ≡ Some c = slice_get-get_or choice k 0 short ∙ ap Some (eqb-true (get_or choice k 0) c same) in
            let d = gone.dominates in
            let more = none.each (slice_set choice k gone.one) (exchanged choice gone.one is gone.from gone.below d.apart d.is_left)
            (still-allowed choice gone.one is there gone.parent d.alone allowed) in
            omega (arith, more, no-more-pairs choice gone.one is there gone.from gone.below d)
        | inr apart ↦ none.each choice (without choice is (eqb-false (get_or choice k 0) c apart)) allowed
      ]

  -- nothing is lost without a class for which another one can stand
  pub exchange : IsDominated t left s c → IsPruned t left (slice_set left (c - t.first) false)
  exchange gone = record {
    long = length-set left (c - t.first) false;
    within = λ choice is. record {
      one_of_each = is.one_of_each;
      are_left = pass-each _ (is_flagged t left) choice (all-so (λ d. is_flagged t (slice_set left (c - t.first) false) d ≡ true → is_flagged t left d ≡ true) (λ d set. still-set left (c - t.first) (d - t.first) set) choice) is.are_left;
    };
    none = λ limit none. record { each = λ choice is allowed. more-than limit gone none choice is allowed };
  }

-- the span of a subpart lies within the table
pub part-within : (t : Table) (k : ℕ) → IsTable t → k < length t.subparts.now
    → (t.first ≤ (get_or t.subparts.now k no-span).first) × ((get_or t.subparts.now k no-span).after ≤ t.first + t.count)
part-within t k table short =
    let within = span-within t.first (t.first + t.count) t.subparts.now k (get_or t.subparts.now k no-span) table.apart (slice_get-get_or t.subparts.now k no-span short) in
    (within.0, within.2)
