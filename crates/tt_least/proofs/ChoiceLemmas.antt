-- Choices of one class of each subpart, and the spans of subparts that are apart.
use Rattle.std.proofs.Common.{◌≡◌, ◌≢◌, ℕ, zero, suc, ◌+◌, ◌<◌, ◌≤◌, true, false, List, [], ◌∷◌, Some, length, arith, refl, ap, subst}
use Rattle.std.specs.Prelude.{All, slice_get, slice_index_or, slice_set}
use Rattle.std.proofs.lemmas.Bool.Decides.{nat_tests}
use Rattle.std.proofs.lemmas.Option.{slice_get-get_or}
use Rattle.tt_problem.specs.declared.parts.Span.{Span}
use Rattle.tt_problem.specs.Spans.{is_in}
use Rattle.tt_least.specs.declared.table.Table.{Table}
use Rattle.tt_least.specs.Choices.{IsChoice, AreApart}
use Rattle.tt_least.specs.Judged.{IsIn, IsTable}

-- a place that is in a span lies within it
pub in-bounds : (c : ℕ) (s : Span) → is_in c s ≡ true → (s.first ≤ c) × (c < s.after)
in-bounds c s inside = (grind (arith, nat_tests), grind (arith, nat_tests))

-- a place within a span is in it
pub within-span : (c : ℕ) (s : Span) → s.first ≤ c → c < s.after → is_in c s ≡ true
within-span c s from below = grind (arith, nat_tests)

-- a place before a span or past it is not in it
pub before-span : (c : ℕ) (s : Span) → c < s.first → is_in c s ≡ false
before-span c s early = grind (arith, nat_tests)

pub after-span : (c : ℕ) (s : Span) → s.after ≤ c → is_in c s ≡ false
after-span c s late = grind (arith, nat_tests)

-- spans that are apart end after they begin
pub apart-ordered : (first after : ℕ) (subparts : List Span) → AreApart first subparts after → first ≤ after
apart-ordered first after [] apart = apart
apart-ordered first after (s ∷ subparts) apart = omega (arith, apart.0, apart.1, apart-ordered s.after after subparts apart.2)

-- a span of the table lies within it
pub span-within : (first after : ℕ) (subparts : List Span) (k : ℕ) (s : Span) → AreApart first subparts after → slice_get subparts k ≡ Some s
    → (first ≤ s.first) × (s.first ≤ s.after) × (s.after ≤ after)
span-within first after [] k s apart at = absurd (cc at)
span-within first after (r ∷ subparts) zero s apart at =
    let same : r ≡ s = cc in
    subst (λ (x : Span). (first ≤ x.first) × (x.first ≤ x.after) × (x.after ≤ after)) same (apart.0, apart.1, apart-ordered r.after after subparts apart.2)
span-within first after (r ∷ subparts) (suc k) s apart at =
    let later = span-within r.after after subparts k s apart.2 at in
    (omega (arith, apart.0, apart.1, later.0), later.1, later.2)

-- a span ends before a later one begins
pub spans-ordered : (first after : ℕ) (subparts : List Span) (j k : ℕ) (r s : Span) → AreApart first subparts after → slice_get subparts j ≡ Some r
    → slice_get subparts k ≡ Some s → j < k → r.after ≤ s.first
spans-ordered first after [] j k r s apart here there less = absurd (cc here)
spans-ordered first after (x ∷ subparts) j zero r s apart here there less = absurd (omega (arith, less))
spans-ordered first after (x ∷ subparts) zero (suc k) r s apart here there less =
    let same : x ≡ r = cc in
    subst (λ (y : Span). y.after ≤ s.first) same (span-within x.after after subparts k s apart.2 there).0
spans-ordered first after (x ∷ subparts) (suc j) (suc k) r s apart here there less =
    spans-ordered x.after after subparts j k r s apart.2 here there (omega (arith, less))

-- a span that is read at a place lies within the table
pub span-at : (t : Table) (k : ℕ) (d : Span) → IsTable t → k < length t.subparts.now
    → (t.first ≤ (slice_index_or t.subparts.now k d).first) × ((slice_index_or t.subparts.now k d).first ≤ (slice_index_or t.subparts.now k d).after)
    × ((slice_index_or t.subparts.now k d).after ≤ t.first + t.count)
span-at t k d table below =
    span-within t.first (t.first + t.count) t.subparts.now k (slice_index_or t.subparts.now k d) table.apart (slice_get-get_or t.subparts.now k d below)

-- a place of one span is in no other one
pub spans-alone : (first after : ℕ) (subparts : List Span) (j k d : ℕ) (r s : Span) → AreApart first subparts after → slice_get subparts j ≡ Some r
    → slice_get subparts k ≡ Some s → j ≢ k → is_in d r ≡ true → is_in d s ≡ false
spans-alone first after [] j k d r s apart here there other inside = absurd (cc here)
spans-alone first after (x ∷ subparts) zero zero d r s apart here there other inside = absurd (other refl)
spans-alone first after (x ∷ subparts) zero (suc k) d r s apart here there other inside =
    let same : x ≡ r = cc in
    let inner : is_in d x ≡ true = rw same inside in
    let later = span-within x.after after subparts k s apart.2 there in
    before-span d s (omega (arith, later.0, (in-bounds d x inner).1))
spans-alone first after (x ∷ subparts) (suc j) zero d r s apart here there other inside =
    let same : s ≡ x = cc in
    let later = span-within x.after after subparts j r apart.2 here in
    rw same (after-span d x (omega (arith, later.0, (in-bounds d r inside).0)))
spans-alone first after (x ∷ subparts) (suc j) (suc k) d r s apart here there other inside =
    spans-alone x.after after subparts j k d r s apart.2 here there (λ same. other (ap suc same)) inside

-- as long as there are subparts
pub choice-long : (subparts : List Span) (choice : List ℕ) → IsChoice subparts choice → length choice ≡ length subparts
choice-long [] [] one = refl
choice-long [] (c ∷ choice) one = absurd one
choice-long (s ∷ subparts) [] one = absurd one
choice-long (s ∷ subparts) (c ∷ choice) one = ap suc (choice-long subparts choice one.2)

-- each class of a choice lies within the spans
pub choice-within : (first after : ℕ) (subparts : List Span) (choice : List ℕ) → AreApart first subparts after → IsChoice subparts choice
    → All (λ c. (first ≤ c) × (c < after)) choice
choice-within first after [] [] apart one k d below = absurd (omega arith)
choice-within first after [] (c ∷ choice) apart one k d below = absurd one
choice-within first after (s ∷ subparts) [] apart one k d below = absurd one
choice-within first after (s ∷ subparts) (c ∷ choice) apart one zero d below =
    let end = apart-ordered s.after after subparts apart.2 in
    (omega (arith, apart.0, one.0), omega (arith, one.1))
choice-within first after (s ∷ subparts) (c ∷ choice) apart one (suc k) d below =
    let later = choice-within s.after after subparts choice apart.2 one.2 k d (omega arith) in
    (omega (arith, apart.0, apart.1, later.0), later.1)

-- each class of a choice is one of the table's
pub choice-in : (t : Table) (choice : List ℕ) → IsTable t → IsChoice t.subparts.now choice → All (IsIn t) choice
choice-in t choice table one = choice-within t.first (t.first + t.count) t.subparts.now choice table.apart one

-- the class at a place is of the subpart there
pub choice-at : (subparts : List Span) (choice : List ℕ) (k : ℕ) (s : Span) → IsChoice subparts choice → slice_get subparts k ≡ Some s
    → (s.first ≤ slice_index_or choice k 0) × (slice_index_or choice k 0 < s.after)
choice-at [] choice k s one at = absurd (cc at)
choice-at (r ∷ subparts) [] k s one at = absurd one
choice-at (r ∷ subparts) (c ∷ choice) zero s one at =
    let same : r ≡ s = cc in
    subst (λ (x : Span). (x.first ≤ c) × (c < x.after)) same (one.0, one.1)
choice-at (r ∷ subparts) (c ∷ choice) (suc k) s one at = choice-at subparts choice k s one.2 at

-- a class of the choice that lies in the subpart at a place is the one at that place
pub choice-only : (first after : ℕ) (subparts : List Span) (choice : List ℕ) (k j : ℕ) (s : Span) → AreApart first subparts after → IsChoice subparts choice
    → slice_get subparts k ≡ Some s → j < length choice → is_in (slice_index_or choice j 0) s ≡ true → j ≡ k
choice-only first after [] choice k j s apart one at below inside = absurd (cc at)
choice-only first after (r ∷ subparts) [] k j s apart one at below inside = absurd one
choice-only first after (r ∷ subparts) (c ∷ choice) zero zero s apart one at below inside = refl
choice-only first after (r ∷ subparts) (c ∷ choice) zero (suc j) s apart one at below inside =
    let same : r ≡ s = cc in
    let inner : is_in (slice_index_or choice j 0) r ≡ true = rw same inside in
    let later = choice-within r.after after subparts choice apart.2 one.2 j 0 (omega arith) in
    absurd (omega (arith, later.0, (in-bounds (slice_index_or choice j 0) r inner).1))
choice-only first after (r ∷ subparts) (c ∷ choice) (suc k) zero s apart one at below inside =
    let later = span-within r.after after subparts k s apart.2 at in
    absurd (omega (arith, later.0, one.1, (in-bounds c s inside).0))
choice-only first after (r ∷ subparts) (c ∷ choice) (suc k) (suc j) s apart one at below inside =
    ap suc (choice-only r.after after subparts choice k j s apart.2 one.2 at (omega arith) inside)

-- a choice with another class of the same subpart in one place is one
pub choice-set : (subparts : List Span) (choice : List ℕ) (k c : ℕ) (s : Span) → IsChoice subparts choice → slice_get subparts k ≡ Some s
    → s.first ≤ c → c < s.after → IsChoice subparts (slice_set choice k c)
choice-set [] choice k c s one at from below = absurd (cc at)
choice-set (r ∷ subparts) [] k c s one at from below = absurd one
choice-set (r ∷ subparts) (d ∷ choice) zero c s one at from below =
    let same : s ≡ r = cc in
    let bounds = subst (λ (x : Span). (x.first ≤ c) × (c < x.after)) same (from, below) in
    (bounds.0, bounds.1, one.2)
choice-set (r ∷ subparts) (d ∷ choice) (suc k) c s one at from below = (one.0, one.1, choice-set subparts choice k c s one.2 at from below)
