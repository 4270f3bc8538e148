-- The joint rows that are kept: what is made 0 again, what a row says of its class, where rows stand, and which stay.
use Rattle.std.proofs.Common.{◌≡◌, ◌≢◌, ◌∙◌, ℕ, zero, suc, ◌+◌, ◌-◌, ◌<◌, ◌≤◌, Bool, true, false, cond, Option, None, Some, List, [], ◌∷◌, ◌++◌, length, get_or, map, drop, take, replicate, sum_by, count_by, refl, sym, ap, arith, inl, inr}
use Rattle.std.proofs.Common.{true≢false}
use Rattle.std.specs.Prelude.{◌==◌, min, slice_set, slice_index, slice_range, All, IfSome, IsSome}
use Rattle.std.specs.Option.{option_map, option_map_or}
use Rattle.std.proofs.lemmas.Bool.{cases_eq, cases_lt, cases_Bool, eq-eqb, ne_eqb, lt-ltb, le-ltb}
use Rattle.std.proofs.lemmas.List.{get_or-set_same, get_or-set_other, get_or_past, length-map, length-set, length-append, length-drop, drop-append-le, take-append-le, drop_all, take_all, take_more, map-append, append_assoc, length-take-le, length-replicate}
use Rattle.std.proofs.lemmas.List.Sums.{sum_by-drop_more, get_or-le-sum_by, sum_by-cons, sum_by-set}
use Rattle.std.proofs.lemmas.List.Elements.{All-nil, All-cons, All-map, All-head, All-tail}
use Rattle.std.proofs.Math.ListN.{get_or-map}
use Rattle.tt_bits.specs.declared.times.Spot.{Spot}
use Rattle.tt_base.specs.Lists.{is_listed}
use Rattle.tt_travel.specs.Table.{Table}
use Rattle.tt_bits.specs.Spots.{spot_at}
use Rattle.tt_roster.specs.Joint.{joint_students, AreTouched}
use Rattle.tt_roster.specs.Lists.{Ascends, list_of, with_class, without_class}
use Rattle.tt_roster.specs.Conflicts.{are_in_conflict, class_conflicts, conflicts_with}
use Rattle.tt_roster.proofs.ListLemmas.{with-without}
use Rattle.tt_roster.proofs.JointLemmas.{one_if}
use Rattle.tt_roster.proofs.JointLaws.{joint-conflicts}
use Rattle.tt_score.specs.declared.rows.JointClass.{JointClass}
use Rattle.tt_score.specs.declared.rows.Span.{Span}
use Rattle.tt_score.specs.Rows.{AreLeft, AreRowsOf, IsCleared, IsRowOf, kept_row, pair_at, pair_of, row_at}
use Rattle.tt_score.specs.Spans.{IsSpan, StandsBeside, pairs_in, rows_of, span_at}

-- a class that is touched is one of the row
pub touched-within : (row touched : List ℕ) (i : ℕ) → AreTouched row touched → i < length touched → get_or touched i 0 < length row
touched-within row touched i are lt =
    let x = get_or touched i 0 in
    elim (cases_lt x (length row)) [
      | inl within ↦ within
      | inr past ↦
          let none : slice_index row x ≡ 0 = get_or_past row x 0 past in
          let one : one_if (x == x) ≡ 1 = ap one_if (eq-eqb x x refl) in
          absurd (omega (arith, are x, none, one, get_or-le-sum_by (λ y. one_if (y == x)) touched i 0 lt))
    ]

-- each class that still has a number is still to come
abbrev pub AreAhead : (row left : List ℕ) → Type 0
AreAhead row left = (other : ℕ) → min 1 (slice_index row other) ≤ count_by (λ x. x == other) left

-- the next gets 0
pub AreAhead-next : (row touched : List ℕ) (i : ℕ) → i < length touched → get_or touched i 0 < length row → AreAhead row (drop i touched) → AreAhead (slice_set row (get_or touched i 0) 0) (drop (i + 1) touched)
AreAhead-next row touched i lt within ahead = λ other.
    let x = get_or touched i 0 in
    let all = sum_by-drop_more (λ y. one_if (y == other)) touched i 0 lt in
    elim (cases_eq other x) [
      | inl same ↦
          let now : slice_index (slice_set row x 0) other ≡ 0 = ap (slice_index (slice_set row x 0)) same ∙ get_or-set_same row x 0 0 within in
          omega (arith, now)
      | inr apart ↦
          let now : slice_index (slice_set row x 0) other ≡ slice_index row other = get_or-set_other row x other 0 0 apart in
          let none : one_if (x == other) ≡ 0 = ap one_if (ne_eqb x other (λ e. apart (sym e))) in
          omega (arith, now, none, all, ahead other)
    ]

all_zero : (xs : List ℕ) → ((k : ℕ) → slice_index xs k ≡ 0) → All (λ n. n ≡ 0) xs
all_zero [] each = All-nil (λ n. n ≡ 0)
all_zero (x ∷ xs) each = All-cons (λ n. n ≡ 0) x xs (each 0) (all_zero xs (λ k. each (suc k)))

-- none is left
pub AreAhead-none : (row : List ℕ) → AreAhead row [] → All (λ n. n ≡ 0) row
AreAhead-none row ahead = all_zero row (λ k. omega (arith, ahead k))

-- touched classes are of the row
pub all_within : (numbers touched : List ℕ) (n : ℕ) → AreTouched numbers touched → length numbers ≡ n → All (λ other. other < n) touched
all_within numbers touched n are long = λ k d below.
    let same : get_or touched k d ≡ get_or touched k 0 = at_same touched k d 0 below in
    rw same (omega (arith, touched-within numbers touched k are below, long))
  where
    at_same : (xs : List ℕ) (k d e : ℕ) → k < length xs → get_or xs k d ≡ get_or xs k e
    at_same [] k d e within = absurd (omega arith)
    at_same (y ∷ ys) zero d e within = refl
    at_same (y ∷ ys) (suc k) d e within = at_same ys k d e (omega arith)

pairs-sum : (t : Table) (spots : List (Option Spot)) (x : Spot) (numbers touched : List ℕ) → sum_by (pair_at t spots x) (map (pair_of numbers) touched) ≡ sum_by (λ other. cond (are_in_conflict t (Some x) (spot_at spots other)) (slice_index numbers other) 0) touched
pairs-sum t spots x numbers [] = refl
pairs-sum t spots x numbers (o ∷ touched) =
    let here : ℕ → ℕ = λ other. cond (are_in_conflict t (Some x) (spot_at spots other)) (slice_index numbers other) 0 in
    omega (arith, sum_by-cons (pair_at t spots x) (pair_of numbers o) (map (pair_of numbers) touched), sum_by-cons here o touched, pairs-sum t spots x numbers touched)

-- the pairs of a row that was counted
pub row-counted : (seats : List (List ℕ)) (n class : ℕ) (numbers touched : List ℕ) → ((other : ℕ) → slice_index numbers other ≡ joint_students seats class other) → AreTouched numbers touched → length numbers ≡ n → length touched ≤ n
    → IsRowOf seats n class (map (pair_of numbers) touched)
row-counted seats n class numbers touched counted are long few = record {
  within = All-map (λ (pair : JointClass). pair.class < n) (pair_of numbers) touched (all_within numbers touched n are long);
  few = omega (arith, few, length-map touched (pair_of numbers));
  paid = λ up t spots x. pairs-sum t spots x numbers touched ∙ joint-conflicts t spots class x n seats numbers touched up counted are;
}

beyond : (class from after : ℕ) (list : List ℕ) → Ascends from after list → after ≤ class → is_listed class list ≡ false
beyond class from after [] up past = refl
beyond class from after (a ∷ list) up past =
    let apart : (class == a) ≡ false = ne_eqb class a (λ e. absurd (omega (arith, e, up.1, past))) in
    rw (apart, beyond class (a + 1) after list up.2 past) refl

nobody-pays : (t : Table) (spots : List (Option Spot)) (n class : ℕ) (x : Spot) (seats : List (List ℕ)) → n ≤ class → All (Ascends 0 n) seats → class_conflicts t spots seats class x ≡ 0
nobody-pays t spots n class x [] past up = refl
nobody-pays t spots n class x (list ∷ seats) past up =
    let one : List ℕ → ℕ = λ l. cond (is_listed class l) (conflicts_with t spots class x l) 0 in
    let none : one list ≡ 0 = ap {B = ℕ} (λ (b : Bool). cond b (conflicts_with t spots class x list) 0) (beyond class 0 n list (All-head (Ascends 0 n) list seats up) past) in
    omega (arith, sum_by-cons one list seats, none, nobody-pays t spots n class x seats past (All-tail (Ascends 0 n) list seats up))

-- a class that there isn't has the empty row
pub row-beyond : (seats : List (List ℕ)) (n class : ℕ) → n ≤ class → IsRowOf seats n class []
row-beyond seats n class past = record {
  within = All-nil (λ (pair : JointClass). pair.class < n);
  few = omega arith;
  paid = λ up t spots x. sym (nobody-pays t spots n class x seats past up);
}

-- what is found at a class, by its span
pub row_is : (pairs : List JointClass) (spans : List (Option Span)) (class : ℕ) → row_at (rows_of pairs spans) class ≡ option_map (pairs_in pairs) (span_at spans class)
row_is pairs spans class = get_or-map (option_map (pairs_in pairs)) spans class None

pub rows-none : (pairs : List JointClass) (n : ℕ) → rows_of pairs (replicate n None) ≡ replicate n None
rows-none pairs zero = refl
rows-none pairs (suc n) = ap (λ rows. None ∷ rows) (rows-none pairs n)

pub none-long : (n : ℕ) → length (replicate {A = Option (List JointClass)} n None) ≡ n
none-long n = length-replicate n None

-- where no row is kept, each is that of its class
pub are-none : (seats : List (List ℕ)) (n : ℕ) → AreRowsOf seats (replicate n None)
are-none seats n = λ c. rw (none-at n c) tt
  where
    none-at : (n c : ℕ) → row_at (replicate n None) c ≡ None
    none-at zero c = refl
    none-at (suc n) zero = refl
    none-at (suc n) (suc c) = none-at n c

-- a kept row is that of its class, and where none is kept there is no such class
pub row-kept : (seats : List (List ℕ)) (rows : List (Option (List JointClass))) (class : ℕ) → AreRowsOf seats rows → (class < length rows → IsSome (row_at rows class)) → IsRowOf seats (length rows) class (kept_row rows class)
row-kept seats rows class are kept =
    elim (cases_lt class (length rows)) [
      | inl within ↦ found (row_at rows class) (are class) (kept within)
      | inr past ↦ rw (get_or_past rows class None past) (row-beyond seats (length rows) class past)
    ]
  where
    found : (o : Option (List JointClass)) → IfSome o (IsRowOf seats (length rows) class) → IsSome o → IsRowOf seats (length rows) class (option_map_or (λ row. row) o [])
    found None is some = absurd (true≢false (sym some))
    found (Some row) is some = is

weaker : {A : Type 0} (P Q : A → Type 0) (o : Option A) → ((x : A) → P x → Q x) → IfSome o P → IfSome o Q
weaker P Q None f is = tt
weaker P Q (Some x) f is = f x is

there : {A : Type 0} (P : A → Type 0) (o : Option A) (x : A) → o ≡ Some x → IfSome o P → P x
there P o x at is = rw at at is

through : {A B : Type 0} (f : A → B) (P : B → Type 0) (o : Option A) → IfSome o (λ x. P (f x)) → IfSome (option_map f o) P
through f P None is = tt
through f P (Some x) is = is

-- the pairs of a span stay where others are put behind, and those are the pairs of the new span
range-front : (xs ys : List JointClass) (a b : ℕ) → a ≤ b → b ≤ length xs → slice_range (xs ++ ys) a b ≡ slice_range xs a b
range-front xs ys a b order within =
    let few : b - a ≤ length (drop a xs) = omega (arith, length-drop a xs, order, within) in
    ap (take (b - a)) (drop-append-le a xs ys (omega (arith, order, within))) ∙ take-append-le (b - a) (drop a xs) ys few

range-behind : (xs ys : List JointClass) (a b : ℕ) → a ≡ length xs → b ≡ length (xs ++ ys) → slice_range (xs ++ ys) a b ≡ ys
range-behind xs ys a b start end =
    let behind : drop a (xs ++ ys) ≡ ys = drop-append-le a xs ys (omega (arith, start)) ∙ ap (λ front. front ++ ys) (drop_all a xs (omega (arith, start))) in
    ap (take (b - a)) behind ∙ take_all (b - a) ys (omega (arith, start, end, length-append xs ys))

-- the rows that stand still, beside others, are those of their classes
placed-before : (seats : List (List ℕ)) (pairs pairs1 more : List JointClass) (spans spans1 : List (Option Span)) → ((c : ℕ) → IfSome (span_at spans c) (IsSpan (length pairs))) → AreRowsOf seats (rows_of pairs spans)
    → ((c : ℕ) → IfSome (span_at spans1 c) (StandsBeside spans pairs pairs1 c))
    → (c : ℕ) → IfSome (span_at spans1 c) (λ span. IsSpan (length (pairs1 ++ more)) span × IsRowOf seats (length (rows_of pairs spans)) c (pairs_in (pairs1 ++ more) span))
placed-before seats pairs pairs1 more spans spans1 told are stand c =
    weaker (StandsBeside spans pairs pairs1 c) (λ span. IsSpan (length (pairs1 ++ more)) span × IsRowOf seats (length (rows_of pairs spans)) c (pairs_in (pairs1 ++ more) span)) (span_at spans1 c)
    (λ span stands.
    let ok = there (IsSpan (length pairs)) (span_at spans c) span stands.before (told c) in
    let row = there (IsRowOf seats (length (rows_of pairs spans)) c) (row_at (rows_of pairs spans) c) (pairs_in pairs span) (row_is pairs spans c ∙ ap (option_map (pairs_in pairs)) stands.before) (are c) in
    let same : pairs_in (pairs1 ++ more) span ≡ pairs_in pairs span = ap (λ l. pairs_in (l ++ more) span) stands.same ∙ range-front pairs more span.start span.end ok.order ok.within in
    let long : length pairs1 ≡ length pairs = ap length stands.same in
    (record { order = ok.order; within = omega (arith, ok.within, length-append pairs1 more, long) }, rw same row))
    (stand c)

span-set : (P : ℕ → Span → Type 0) (spans : List (Option Span)) (class : ℕ) (new : Span) → class < length spans → ((c : ℕ) → IfSome (span_at spans c) (P c)) → P class new → (c : ℕ) → IfSome (span_at (slice_set spans class (Some new)) c) (P c)
span-set P spans class new lt all here c =
    elim (cases_eq c class) [
      | inl same ↦ rw (same, get_or-set_same spans class (Some new) None lt) here
      | inr apart ↦ rw (get_or-set_other spans class c (Some new) None apart) (all c)
    ]

-- where a row is put behind those that stand still, the spans are right, and each row is that of its class
pub rows-more : (seats : List (List ℕ)) (pairs pairs1 pairs2 more : List JointClass) (spans spans1 : List (Option Span)) (class : ℕ) (new : Span) → ((c : ℕ) → IfSome (span_at spans c) (IsSpan (length pairs))) → AreRowsOf seats (rows_of pairs spans)
    → ((c : ℕ) → IfSome (span_at spans1 c) (StandsBeside spans pairs pairs1 c)) → length spans1 ≡ length spans → class < length spans1 → pairs2 ≡ pairs1 ++ more → new.start ≡ length pairs1 → new.end ≡ length pairs2
    → IsRowOf seats (length (rows_of pairs spans)) class more
    → ((c : ℕ) → IfSome (span_at (slice_set spans1 class (Some new)) c) (IsSpan (length pairs2)))
    × AreRowsOf seats (rows_of pairs2 (slice_set spans1 class (Some new)))
    × IsRowOf seats (length (rows_of pairs2 (slice_set spans1 class (Some new)))) class (kept_row (rows_of pairs2 (slice_set spans1 class (Some new))) class)
rows-more seats pairs pairs1 pairs2 more spans spans1 class new told are stand long lt is start end row =
    let n = length (rows_of pairs spans) in
    let spans2 = slice_set spans1 class (Some new) in
    let P : ℕ → Span → Type 0 = λ c span. IsSpan (length pairs2) span × IsRowOf seats n c (pairs_in pairs2 span) in
    let own : pairs_in pairs2 new ≡ more = rw is (range-behind pairs1 more new.start new.end start (end ∙ ap length is)) in
    let count : length pairs2 ≡ length pairs1 + length more = ap length is ∙ length-append pairs1 more in
    let here : P class new = (record { order = omega (arith, start, end, count); within = omega (arith, end) }, rw own row) in
    let before : (c : ℕ) → IfSome (span_at spans1 c) (P c) = rw is (placed-before seats pairs pairs1 more spans spans1 told are stand) in
    let all = span-set P spans1 class new lt before here in
    let whole : length (rows_of pairs2 spans2) ≡ n = omega (arith, length-map spans2 (option_map (pairs_in pairs2)), length-map spans (option_map (pairs_in pairs)), length-set spans1 class (Some new), long) in
    let at : row_at (rows_of pairs2 spans2) class ≡ Some (pairs_in pairs2 new) = row_is pairs2 spans2 class ∙ ap (option_map (pairs_in pairs2)) (get_or-set_same spans1 class (Some new) None lt) in (
      λ c. weaker (P c) (IsSpan (length pairs2)) (span_at spans2 c) (λ span placed. placed.0) (all c),
      λ c. rw (whole, row_is pairs2 spans2 c) (through (pairs_in pairs2) (IsRowOf seats n c) (span_at spans2 c) (weaker (P c) (λ span. IsRowOf seats n c (pairs_in pairs2 span)) (span_at spans2 c) (λ span placed. placed.1) (all c))),
      rw (whole, at) here.1,
    )

-- one pair more
pub pair-more : (pairs0 pairs pairs1 : List JointClass) (numbers touched : List ℕ) (i : ℕ) → i < length touched → pairs ≡ pairs0 ++ map (pair_of numbers) (take i touched) → pairs1 ≡ pairs ++ pair_of numbers (get_or touched i 0) ∷ []
    → pairs1 ≡ pairs0 ++ map (pair_of numbers) (take (i + 1) touched)
pair-more pairs0 pairs pairs1 numbers touched i lt is more =
    let f = pair_of numbers in
    let behind : map f (take (i + 1) touched) ≡ map f (take i touched) ++ f (get_or touched i 0) ∷ [] = ap (map f) (take_more touched i 0 lt) ∙ map-append f (take i touched) (get_or touched i 0 ∷ []) in
    more ∙ ap (λ l. l ++ f (get_or touched i 0) ∷ []) is ∙ append_assoc pairs0 (map f (take i touched)) (f (get_or touched i 0) ∷ []) ∙ ap (λ l. pairs0 ++ l) (sym behind)

pub pairs-count : (pairs0 pairs : List JointClass) (numbers touched : List ℕ) (i : ℕ) → i ≤ length touched → pairs ≡ pairs0 ++ map (pair_of numbers) (take i touched) → length pairs ≡ length pairs0 + i
pairs-count pairs0 pairs numbers touched i le is =
    let all : length pairs ≡ length (pairs0 ++ map (pair_of numbers) (take i touched)) = ap length is in
    omega (arith, all, length-append pairs0 (map (pair_of numbers) (take i touched)), length-map (take i touched) (pair_of numbers), length-take-le i touched le)

-- the rows without those of some classes
abbrev pub rows_without : (classes : List ℕ) → List (Option (List JointClass)) → List (Option (List JointClass))
rows_without [] rows = rows
rows_without (class ∷ classes) rows = rows_without classes (slice_set rows class None)

-- which rows are left without those of a list, and how many places
pub row-left : (list : List ℕ) (rows : List (Option (List JointClass))) (c : ℕ) → row_at (rows_without list rows) c ≡ cond (is_listed c list) None (row_at rows c)
row-left [] rows c = refl
row-left (class ∷ list) rows c =
    elim (cases_eq c class) [
      | inl same ↦ row-left list (slice_set rows class None) c ∙ rw (eq-eqb c class same, same) (gone (is_listed class list))
      | inr apart ↦ row-left list (slice_set rows class None) c ∙ rw (ne_eqb c class apart, get_or-set_other rows class c None None apart) refl
    ]
  where
    nothing : row_at (slice_set rows class None) class ≡ None
    nothing = elim (cases_lt class (length rows)) [
      | inl within ↦ get_or-set_same rows class None None within
      | inr past ↦ get_or_past (slice_set rows class None) class None (omega (arith, past, length-set rows class None))
    ]

    gone : (b : Bool) → cond b None (row_at (slice_set rows class None) class) ≡ None
    gone true = refl
    gone false = nothing

pub rows-left : (list : List ℕ) (rows : List (Option (List JointClass))) → length (rows_without list rows) ≡ length rows
rows-left [] rows = refl
rows-left (class ∷ list) rows = rows-left list (slice_set rows class None) ∙ length-set rows class None

-- a class that neither list of the student has pays as before
pays-same : (t : Table) (spots : List (Option Spot)) (seats : List (List ℕ)) (student class : ℕ) (list : List ℕ) (x : Spot) → student < length seats → is_listed class (list_of seats student) ≡ false → is_listed class list ≡ false
    → class_conflicts t spots seats class x ≡ class_conflicts t spots (slice_set seats student list) class x
pays-same t spots seats student class list x lt before after =
    let one : List ℕ → ℕ = λ l. cond (is_listed class l) (conflicts_with t spots class x l) 0 in
    let free : (l : List ℕ) → is_listed class l ≡ false → one l ≡ 0 = λ l is. ap {B = ℕ} (λ (b : Bool). cond b (conflicts_with t spots class x l) 0) is in
    omega (arith, sum_by-set one seats student list [] lt, free (list_of seats student) before, free list after)

listed-here : (c class : ℕ) (rest : List ℕ) → c ≡ class → is_listed c (class ∷ rest) ≡ true
listed-here c class rest same = rw (eq-eqb c class same) refl

listed-behind : (c class : ℕ) (rest : List ℕ) → is_listed c (class ∷ rest) ≡ false → is_listed c rest ≡ false
listed-behind c class rest free =
    elim (cases_eq c class) [
      | inl same ↦ absurd (true≢false (sym (listed-here c class rest same) ∙ free))
      | inr apart ↦ rw (ne_eqb c class apart) at free
    ]

listed-late : (c class : ℕ) (rest : List ℕ) → is_listed c rest ≡ true → is_listed c (class ∷ rest) ≡ true
listed-late c class rest has =
    elim (cases_eq c class) [
      | inl same ↦ listed-here c class rest same
      | inr apart ↦ rw (ne_eqb c class apart) has
    ]

-- where a student's list changes, the rows of the classes on neither list stay
pub rows-changed : (seats : List (List ℕ)) (rows left : List (Option (List JointClass))) (student class : ℕ) (list : List ℕ) → AreRowsOf seats rows → All (Ascends 0 (length rows)) seats → student < length seats
    → ((c : ℕ) → c ≢ class → is_listed c list ≡ is_listed c (list_of seats student)) → length left ≡ length rows → AreLeft (class ∷ list_of seats student) rows left → AreRowsOf (slice_set seats student list) left
rows-changed seats rows left student class list are up lt same long is_left = λ c.
    let old = class ∷ list_of seats student in
    rw (long, is_left c) (
    elim (cases_Bool (is_listed c old)) [
      | inl has ↦ rw has tt
      | inr free ↦
          let apart : c ≢ class = λ e. true≢false (sym (listed-here c class (list_of seats student) e) ∙ free) in
          let before : is_listed c (list_of seats student) ≡ false = listed-behind c class (list_of seats student) free in
          rw free (weaker (IsRowOf seats (length rows) c) (IsRowOf (slice_set seats student list) (length rows) c) (row_at rows c)
          (λ row is. record {
            within = is.within;
            few = is.few;
            paid = λ _ t spots x. is.paid up t spots x ∙ pays-same t spots seats student c list x lt before (same c apart ∙ before);
          }) (are c))
    ])

-- and no class of the student has one
pub now-cleared : (seats : List (List ℕ)) (rows left : List (Option (List JointClass))) (student class : ℕ) (list : List ℕ) → student < length seats
    → ((c : ℕ) → c ≢ class → is_listed c list ≡ is_listed c (list_of seats student)) → AreLeft (class ∷ list_of seats student) rows left → IsCleared (slice_set seats student list) left student
now-cleared seats rows left student class list lt same is_left = λ c has.
    let old = list_of seats student in
    let listed : is_listed c list ≡ true = ap (is_listed c) (sym (get_or-set_same seats student list [] lt)) ∙ has in
    let here : is_listed c (class ∷ old) ≡ true = elim (cases_eq c class) [
      | inl e ↦ listed-here c class old e
      | inr apart ↦ listed-late c class old (sym (same c apart) ∙ listed)
    ] in
    is_left c ∙ ap (λ b. cond b None (row_at rows c)) here

-- the rows of a student without any are left where that of one class goes
pub left-cleared : (seats : List (List ℕ)) (rows : List (Option (List JointClass))) (student class : ℕ) → IsCleared seats rows student → AreLeft (class ∷ list_of seats student) rows (slice_set rows class None)
left-cleared seats rows student class none = λ c. row-left (class ∷ []) rows c ∙ alike c
  where
    empty : (c : ℕ) → row_at rows c ≡ cond (is_listed c (list_of seats student)) None (row_at rows c)
    empty c = elim (cases_Bool (is_listed c (list_of seats student))) [
      | inl has ↦ rw has (none c has)
      | inr free ↦ rw free refl
    ]

    alike : (c : ℕ) → cond (is_listed c (class ∷ [])) None (row_at rows c) ≡ cond (is_listed c (class ∷ list_of seats student)) None (row_at rows c)
    alike c = elim (cases_eq c class) [
      | inl same ↦ rw (eq-eqb c class same) refl
      | inr apart ↦ rw (ne_eqb c class apart) (empty c)
    ]

-- another class that comes or goes changes nothing
pub listed-with : (other class : ℕ) (list : List ℕ) → other ≢ class → is_listed other (with_class class list) ≡ is_listed other list
listed-with other class [] apart = rw (ne_eqb other class apart) refl
listed-with other class (a ∷ list) apart =
    elim (cases_lt class a) [
      | inl before ↦ rw (lt-ltb class a before, ne_eqb other class apart) refl
      | inr after ↦ rw (le-ltb class a after, listed-with other class list apart) refl
    ]

pub listed-without : (other class from after : ℕ) (list : List ℕ) → Ascends from after list → is_listed class list ≡ true → other ≢ class → is_listed other (without_class class list) ≡ is_listed other list
listed-without other class from after list up has apart =
    sym (listed-with other class (without_class class list) apart) ∙ ap (is_listed other) (with-without class from after list up has)
