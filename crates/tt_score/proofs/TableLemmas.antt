-- The joint rows that are changed in place: one student more or less at a class, and what a class pays once another is seated.
use Rattle.std.proofs.Common.{◌≡◌, ◌≢◌, ◌∙◌, ℕ, zero, suc, ◌+◌, ◌-◌, ◌<◌, ◌≤◌, Bool, true, false, cond, Option, None, Some, List, [], ◌∷◌, ◌++◌, length, replicate, count_by, nat_eq, refl, sym, ap, arith, inl, inr}
use Rattle.std.specs.Prelude.{◌==◌, slice_set, slice_index_or, All, IfSome, IsSome, IsSomeAnd}
use Rattle.std.specs.List.{swap_remove}
use Rattle.std.specs.Option.{option_map_or}
use Rattle.std.proofs.Common.{true≢false}
use Rattle.std.proofs.lemmas.Bool.{cases_eq, cases_lt, cases_Bool, eq-eqb, ne_eqb, or_parts, lt-ltb, le-ltb}
use Rattle.std.proofs.lemmas.List.{get_or-set_same, get_or-set_other, get_or_past, length-set, length-replicate}
use Rattle.std.proofs.lemmas.List.Sums.{sum_by-cons, sum_by-set, sum_by-swap_remove}
use Rattle.std.proofs.lemmas.List.Elements.{All-nil, All-cons, All-set, All-take, All-get_or}
use Rattle.tt_bits.specs.declared.times.Spot.{Spot}
use Rattle.tt_bits.specs.Spots.{spot_at}
use Rattle.tt_travel.specs.Table.{Table}
use Rattle.tt_base.specs.Lists.{is_listed}
use Rattle.tt_roster.specs.Lists.{Ascends, list_of, with_class, without_class}
use Rattle.tt_roster.specs.Conflicts.{are_in_conflict, class_conflicts, conflicts_with}
use Rattle.tt_roster.proofs.ListLemmas.{has-below, has-with, has-without, with-without, Ascends-without}
use Rattle.tt_roster.proofs.ConflictLemmas.{count-other}
use Rattle.tt_score.specs.declared.rows.JointClass.{JointClass}
use Rattle.tt_score.specs.Rows.{IsRowOf, kept_row}
use Rattle.tt_score.specs.Table.{AreBetween, IsBetween, IsOneLess, IsOneMore, IsPaidRow, IsTableOf, RowSeen, comes_to, new_row, numbers_where, row_of, table_row}
use Rattle.tt_score.proofs.RowLemmas.{listed-with}

-- the pair of the last student goes
pub last-goes : (row : List JointClass) (at : ℕ) (d : JointClass) (class : ℕ) → at < length row → (slice_index_or row at d).class ≡ class → (slice_index_or row at d).number ≡ 1 → IsOneLess class row (swap_remove row at d)
last-goes row at d class within is one = record {
  within = λ n all.
      let P : JointClass → Type 0 = λ pair. pair.class < n in
      All-take P (length row - 1) (slice_set row at (slice_index_or row (length row - 1) d)) (All-set P row at (slice_index_or row (length row - 1) d) (All-get_or P row (length row - 1) d (omega (arith, within)) all) all);
  total = λ g.
      let f : JointClass → ℕ = λ pair. cond (g pair.class) pair.number 0 in
      let all = sum_by-swap_remove f row at d within in
      let here : f (slice_index_or row at d) ≡ cond (g class) 1 0 = rw (is, one) refl in
      omega (arith, all, here);
}

not_paid : (b : Bool) (n : ℕ) → b ≡ false → cond b n 0 ≡ 0
not_paid b n is = rw is refl

paid_all : (b : Bool) (n : ℕ) → b ≡ true → cond b n 0 ≡ n
paid_all b n is = rw is refl

-- a test counts one class more
count-with : (h : ℕ → Bool) (class : ℕ) (list : List ℕ) → count_by h (with_class class list) ≡ count_by h list + cond (h class) 1 0
count-with h class [] =
    let one : ℕ → ℕ = λ o. cond (h o) 1 0 in
    omega (arith, sum_by-cons one class [])
count-with h class (a ∷ list) =
    let one : ℕ → ℕ = λ o. cond (h o) 1 0 in
    elim (cases_lt class a) [
      | inl before ↦ rw (lt-ltb class a before) (omega (arith, sum_by-cons one class (a ∷ list)))
      | inr behind ↦ rw (le-ltb class a behind) (omega (arith, sum_by-cons one a (with_class class list), sum_by-cons one a list, count-with h class list))
    ]

-- to the class that is seated come all of the list
comes-itself : (class : ℕ) (g : ℕ → Bool) (list : List ℕ) → is_listed class list ≡ false → comes_to class g class list ≡ count_by g list
comes-itself class g [] free = refl
comes-itself class g (a ∷ list) free =
    let one : ℕ → ℕ = λ o. cond (class == class) (cond (g o) 1 0) 0 + cond (class == o) (cond (g class) 1 0) 0 in
    let count : ℕ → ℕ = λ o. cond (g o) 1 0 in
    let parts = or_parts (nat_eq class a) (is_listed class list) free in
    let other : (class == a) ≡ false = parts.0 in
    let here : one a ≡ count a + 0 = rw (eq-eqb class class refl, other) refl in
    omega (arith, sum_by-cons one a list, sum_by-cons count a list, here, comes-itself class g list parts.1)

-- to another class of the list that one comes, to no other
comes-other : (c class : ℕ) (g : ℕ → Bool) (from after : ℕ) (list : List ℕ) → c ≢ class → Ascends from after list → comes_to c g class list ≡ cond (is_listed c list) (cond (g class) 1 0) 0
comes-other c class g from after [] apart up = refl
comes-other c class g from after (a ∷ list) apart up =
    let one : ℕ → ℕ = λ o. cond (c == class) (cond (g o) 1 0) 0 + cond (c == o) (cond (g class) 1 0) 0 in
    let rest = comes-other c class g (a + 1) after list apart up.2 in
    elim (cases_eq c a) [
      | inl same ↦
          let gone : is_listed c list ≡ false = has-below c (a + 1) after list up.2 (omega (arith, same)) in
          let none : comes_to c g class list ≡ 0 = rest ∙ ap {B = ℕ} (λ (b : Bool). cond b (cond (g class) 1 0) 0) gone in
          let here : one a ≡ 0 + cond (g class) 1 0 = rw (ne_eqb c class apart, eq-eqb c a same) refl in
          let listed : is_listed c (a ∷ list) ≡ true = rw (eq-eqb c a same) refl in
          omega (arith, sum_by-cons one a list, none, here, paid_all (is_listed c (a ∷ list)) (cond (g class) 1 0) listed)
      | inr other ↦
          let here : one a ≡ 0 + 0 = rw (ne_eqb c class apart, ne_eqb c a other) refl in
          let listed : is_listed c (a ∷ list) ≡ is_listed c list = rw (ne_eqb c a other) refl in
          omega (arith, sum_by-cons one a list, rest, here, ap {B = ℕ} (λ (b : Bool). cond b (cond (g class) 1 0) 0) listed)
    ]

emptied_at : (h : List (Option Spot)) (class : ℕ) → spot_at (slice_set h class None) class ≡ None
emptied_at h class = elim (cases_lt class (length h)) [
  | inl within ↦ get_or-set_same h class None None within
  | inr past ↦ get_or_past (slice_set h class None) class None (omega (arith, past, length-set h class None))
]

-- what a class pays by a list with one class more
one-seated : (t : Table) (spots : List (Option Spot)) (c class : ℕ) (x : Spot) (from after : ℕ) (list : List ℕ) → Ascends from after list → is_listed class list ≡ false
    → cond (is_listed c (with_class class list)) (conflicts_with t spots c x (with_class class list)) 0 ≡ cond (is_listed c list) (conflicts_with t spots c x list) 0 + comes_to c (λ o. are_in_conflict t (Some x) (spot_at spots o)) class list
one-seated t spots c class x from after list up free =
    let f : Option Spot → Bool = are_in_conflict t (Some x) in
    let g : ℕ → Bool = λ o. f (spot_at spots o) in
    let h : ℕ → Bool = λ o. f (spot_at (slice_set spots c None) o) in
    let more = count-with h class list in
    elim (cases_eq c class) [
      | inl same ↦
          let has : is_listed c (with_class class list) ≡ true = ap (λ k. is_listed k (with_class class list)) same ∙ has-with class list in
          let none : is_listed c list ≡ false = ap (λ k. is_listed k list) same ∙ free in
          let before = not_paid (is_listed c list) (conflicts_with t spots c x list) none in
          let after = paid_all (is_listed c (with_class class list)) (conflicts_with t spots c x (with_class class list)) has in
          let gone : h class ≡ false = ap (λ k. f (spot_at (slice_set spots c None) k)) (sym same) ∙ ap f (emptied_at spots c) in
          let own = ap {B = ℕ} (λ (b : Bool). cond b 1 0) gone in
          let others = count-other f spots c None list none in
          let comes = ap (λ k. comes_to k g class list) same ∙ comes-itself class g list free in
          omega (arith, before, after, more, own, others, comes)
      | inr apart ↦
          let alike = listed-with c class list apart in
          let comes = comes-other c class g from after list apart up in
          let here : h class ≡ g class = ap f (get_or-set_other spots c class None None (λ e. apart (sym e))) in
          let own = ap {B = ℕ} (λ (b : Bool). cond b 1 0) here in
          elim (cases_Bool (is_listed c list)) [
            | inl has ↦
                let before = paid_all (is_listed c list) (conflicts_with t spots c x list) has in
                let after = paid_all (is_listed c (with_class class list)) (conflicts_with t spots c x (with_class class list)) (alike ∙ has) in
                let come = paid_all (is_listed c list) (cond (g class) 1 0) has in
                omega (arith, before, after, more, own, comes, come)
            | inr none ↦
                let before = not_paid (is_listed c list) (conflicts_with t spots c x list) none in
                let after = not_paid (is_listed c (with_class class list)) (conflicts_with t spots c x (with_class class list)) (alike ∙ none) in
                let come = not_paid (is_listed c list) (cond (g class) 1 0) none in
                omega (arith, before, after, comes, come)
          ]
    ]

-- so over all students, once one of them is seated
pays-more : (t : Table) (spots : List (Option Spot)) (seats : List (List ℕ)) (student c class : ℕ) (x : Spot) (from after : ℕ) → student < length seats → Ascends from after (list_of seats student) → is_listed class (list_of seats student) ≡ false
    → class_conflicts t spots (slice_set seats student (with_class class (list_of seats student))) c x ≡ class_conflicts t spots seats c x + comes_to c (λ o. are_in_conflict t (Some x) (spot_at spots o)) class (list_of seats student)
pays-more t spots seats student c class x from after lt up free =
    let one : List ℕ → ℕ = λ l. cond (is_listed c l) (conflicts_with t spots c x l) 0 in
    omega (arith, sum_by-set one seats student (with_class class (list_of seats student)) [] lt, one-seated t spots c class x from after (list_of seats student) up free)

-- or leaves
pays-less : (t : Table) (spots : List (Option Spot)) (seats : List (List ℕ)) (student c class : ℕ) (x : Spot) (from after : ℕ) → student < length seats → Ascends from after (list_of seats student) → is_listed class (list_of seats student) ≡ true
    → class_conflicts t spots (slice_set seats student (without_class class (list_of seats student))) c x + comes_to c (λ o. are_in_conflict t (Some x) (spot_at spots o)) class (without_class class (list_of seats student)) ≡ class_conflicts t spots seats c x
pays-less t spots seats student c class x from after lt up seated =
    let one : List ℕ → ℕ = λ l. cond (is_listed c l) (conflicts_with t spots c x l) 0 in
    let list = list_of seats student in
    let left = without_class class list in
    let back : one (with_class class left) ≡ one list = ap one (with-without class from after list up seated) in
    omega (arith, sum_by-set one seats student left [] lt, one-seated t spots c class x from after left (Ascends-without class from after list up) (has-without class from after list up), back)

chain : {A : Type 0} (Q P R : A → A → Type 0) (o0 o1 o2 : Option A) → IfSome o1 (λ a. IsSomeAnd o0 (λ z. Q z a)) → IfSome o2 (λ b. IsSomeAnd o1 (λ a. P a b)) → ((z a b : A) → Q z a → P a b → R z b) → IfSome o2 (λ b. IsSomeAnd o0 (λ z. R z b))
chain Q P R o0 o1 None before now then = tt
chain Q P R o0 None (Some b) before now then = absurd now
chain Q P R None (Some a) (Some b) before now then = absurd before
chain Q P R (Some z) (Some a) (Some b) before now then = then z a b before now

carry : {A : Type 0} (P Q : A → Type 0) (R : A → A → Type 0) (o o' : Option A) → IfSome o P → IfSome o' (λ b. IsSomeAnd o (λ a. R a b)) → ((a b : A) → P a → R a b → Q b) → IfSome o' Q
carry P Q R o None is next then = tt
carry P Q R None (Some b) is next then = absurd next
carry P Q R (Some a) (Some b) is next then = then a b is next

same-row : {A : Type 0} (R : A → A → Type 0) (o : Option A) → ((a : A) → R a a) → IfSome o (λ b. IsSomeAnd o (λ a. R a b))
same-row R None all = tt
same-row R (Some a) all = all a

weaken : {A : Type 0} (P R : A → A → Type 0) (o o' : Option A) → ((a b : A) → P a b → R a b) → IfSome o' (λ b. IsSomeAnd o (λ a. P a b)) → IfSome o' (λ b. IsSomeAnd o (λ a. R a b))
weaken P R o None f is = tt
weaken P R None (Some b) f is = absurd is
weaken P R (Some a) (Some b) f is = f a b is

-- what holds between the pairs of two rows, where the second has some
abbrev pub Next : (List JointClass → List JointClass → Type 0) → RowSeen → RowSeen → Type 0
Next R row next = IfSome next.pairs (λ b. IsSomeAnd row.pairs (λ a. R a b))

row-set : (R : List JointClass → List JointClass → Type 0) (table : List RowSeen) (k c : ℕ) (new : RowSeen) → k < length table → (c ≡ k → Next R (table_row table k) new) → (c ≢ k → (a : List JointClass) → R a a) → Next R (table_row table c) (table_row (slice_set table k new) c)
row-set R table k c new lt here there =
    elim (cases_eq c k) [
      | inl same ↦ rw (same, get_or-set_same table k new (record { classes = 0; pairs = None }) lt) (here same)
      | inr apart ↦ rw (get_or-set_other table k c new (record { classes = 0; pairs = None }) apart) (same-row R (table_row table c).pairs (there apart))
    ]

pub classes-set : (table : List RowSeen) (k c : ℕ) (new : RowSeen) → k < length table → new.classes ≡ (table_row table k).classes → (table_row (slice_set table k new) c).classes ≡ (table_row table c).classes
classes-set table k c new lt same =
    elim (cases_eq c k) [
      | inl here ↦ rw (here, get_or-set_same table k new (record { classes = 0; pairs = None }) lt) same
      | inr apart ↦ rw (get_or-set_other table k c new (record { classes = 0; pairs = None }) apart) refl
    ]

-- a row that is so much more than another, or so much less
record IsMore (n : ℕ) (gain : (ℕ → Bool) → ℕ) (row more : List JointClass) : Type 0 where
  within : All (λ pair. pair.class < n) row → All (λ pair. pair.class < n) more
  total : (g : ℕ → Bool) → numbers_where g more ≡ numbers_where g row + gain g

record IsLess (n : ℕ) (loss : (ℕ → Bool) → ℕ) (row less : List JointClass) : Type 0 where
  within : All (λ pair. pair.class < n) row → All (λ pair. pair.class < n) less
  total : (g : ℕ → Bool) → numbers_where g less + loss g ≡ numbers_where g row

abbrev at_row : (c k other : ℕ) → (ℕ → Bool) → ℕ
at_row c k other g = cond (c == k) (cond (g other) 1 0) 0

more-set : (n : ℕ) (table : List RowSeen) (k other c : ℕ) (new : RowSeen) → k < length table → other < n → Next (IsOneMore other) (table_row table k) new → Next (IsMore n (at_row c k other)) (table_row table c) (table_row (slice_set table k new) c)
more-set n table k other c new lt below one =
    row-set (IsMore n (at_row c k other)) table k c new lt
    (λ same. weaken (IsOneMore other) (IsMore n (at_row c k other)) (table_row table k).pairs new.pairs
    (λ a b is. record { within = λ all. is.within n below all; total = λ g. omega (arith, is.total g, paid_all (c == k) (cond (g other) 1 0) (eq-eqb c k same)) }) one)
    (λ apart a. record { within = λ all. all; total = λ g. omega (arith, not_paid (c == k) (cond (g other) 1 0) (ne_eqb c k apart)) })

less-set : (n : ℕ) (table : List RowSeen) (k other c : ℕ) (new : RowSeen) → k < length table → Next (IsOneLess other) (table_row table k) new → Next (IsLess n (at_row c k other)) (table_row table c) (table_row (slice_set table k new) c)
less-set n table k other c new lt one =
    row-set (IsLess n (at_row c k other)) table k c new lt
    (λ same. weaken (IsOneLess other) (IsLess n (at_row c k other)) (table_row table k).pairs new.pairs
    (λ a b is. record { within = λ all. is.within n all; total = λ g. omega (arith, is.total g, paid_all (c == k) (cond (g other) 1 0) (eq-eqb c k same)) }) one)
    (λ apart a. record { within = λ all. all; total = λ g. omega (arith, not_paid (c == k) (cond (g other) 1 0) (ne_eqb c k apart)) })

-- before the first class of the list
pub between-first : (seated : ℕ) (list : List ℕ) (table : List RowSeen) → AreBetween seated list table list table
between-first seated list table = record {
  same = refl;
  long = λ c. refl;
  rows = λ c. same-row (λ row row'. IsBetween (length table) seated c list row list row') (table_row table c).pairs (λ a. record { within = λ all. all; total = λ g. refl });
}

-- of no rows nothing is said
pub between-none : (seated : ℕ) (list list' : List ℕ) (table : List RowSeen) → ((c : ℕ) → c < length table → seated < length table) → length table ≤ seated → AreBetween seated list table list' table
between-none seated list list' table whole past = record {
  same = refl;
  long = λ c. refl;
  rows = λ c. elim (cases_lt c (length table)) [
    | inl within ↦ absurd (omega (arith, whole c within, past))
    | inr beyond ↦ rw (get_or_past table c (record { classes = 0; pairs = None }) beyond) tt
  ];
}

-- the row of a class that there is, whatever stands for none
pub row-any : (table : List RowSeen) (class : ℕ) (d : RowSeen) → class < length table → slice_index_or table class d ≡ table_row table class
row-any [] class d within = absurd (omega arith)
row-any (row ∷ table) zero d within = refl
row-any (row ∷ table) (suc class) d within = row-any table class d (omega arith)

-- one class of the list more is counted
pub seat-step : (seated other : ℕ) (list left : List ℕ) (table0 table : List RowSeen) (new new2 : RowSeen) → seated < length table → other < length table → AreBetween seated list table0 (other ∷ left) table
    → new.classes ≡ (table_row table seated).classes → Next (IsOneMore other) (table_row table seated) new
    → new2.classes ≡ (table_row (slice_set table seated new) other).classes → Next (IsOneMore seated) (table_row (slice_set table seated new) other) new2
    → AreBetween seated list table0 left (slice_set (slice_set table seated new) other new2)
seat-step seated other list left table0 table new new2 lt lt2 before long one long2 two =
    let n = length table0 in
    let table1 = slice_set table seated new in
    let table2 = slice_set table1 other new2 in
    let whole = length-set table seated new in
    let lt3 : other < length table1 = omega (arith, whole, lt2) in
    record {
      same = length-set table1 other new2 ∙ whole ∙ before.same;
      long = λ c. classes-set table1 other c new2 lt3 long2 ∙ classes-set table seated c new lt long ∙ before.long c;
      rows = λ c.
          let both = chain (IsMore n (at_row c seated other)) (IsMore n (at_row c other seated)) (IsMore n (λ g. at_row c seated other g + at_row c other seated g)) (table_row table c).pairs (table_row table1 c).pairs (table_row table2 c).pairs
          (more-set n table seated other c new lt (omega (arith, lt2, before.same)) one) (more-set n table1 other seated c new2 lt3 (omega (arith, lt, before.same)) two)
          (λ z a b p q. record { within = λ all. q.within (p.within all); total = λ g. omega (arith, p.total g, q.total g) }) in
          chain (λ row row'. IsBetween n seated c list row (other ∷ left) row') (IsMore n (λ g. at_row c seated other g + at_row c other seated g)) (λ row row'. IsBetween n seated c list row left row')
          (table_row table0 c).pairs (table_row table c).pairs (table_row table2 c).pairs (before.rows c) both
          (λ z a b p q. record {
            within = λ all. q.within (p.within all);
            total = λ g. omega (arith, p.total g, q.total g, sum_by-cons (λ o. cond (c == seated) (cond (g o) 1 0) 0 + cond (c == o) (cond (g seated) 1 0) 0) other left);
          });
    }

-- one class of the list more is taken off
pub leave-step : (seated other : ℕ) (list left : List ℕ) (table0 table : List RowSeen) (new new2 : RowSeen) → seated < length table → other < length table → AreBetween seated (other ∷ left) table0 list table
    → new.classes ≡ (table_row table seated).classes → Next (IsOneLess other) (table_row table seated) new
    → new2.classes ≡ (table_row (slice_set table seated new) other).classes → Next (IsOneLess seated) (table_row (slice_set table seated new) other) new2
    → AreBetween seated left table0 list (slice_set (slice_set table seated new) other new2)
leave-step seated other list left table0 table new new2 lt lt2 before long one long2 two =
    let n = length table0 in
    let table1 = slice_set table seated new in
    let table2 = slice_set table1 other new2 in
    let whole = length-set table seated new in
    let lt3 : other < length table1 = omega (arith, whole, lt2) in
    record {
      same = length-set table1 other new2 ∙ whole ∙ before.same;
      long = λ c. classes-set table1 other c new2 lt3 long2 ∙ classes-set table seated c new lt long ∙ before.long c;
      rows = λ c.
          let both = chain (IsLess n (at_row c seated other)) (IsLess n (at_row c other seated)) (IsLess n (λ g. at_row c seated other g + at_row c other seated g)) (table_row table c).pairs (table_row table1 c).pairs (table_row table2 c).pairs
          (less-set n table seated other c new lt one) (less-set n table1 other seated c new2 lt3 two)
          (λ z a b p q. record { within = λ all. q.within (p.within all); total = λ g. omega (arith, p.total g, q.total g) }) in
          chain (λ row row'. IsBetween n seated c (other ∷ left) row list row') (IsLess n (λ g. at_row c seated other g + at_row c other seated g)) (λ row row'. IsBetween n seated c left row list row')
          (table_row table0 c).pairs (table_row table c).pairs (table_row table2 c).pairs (before.rows c) both
          (λ z a b p q. record {
            within = λ all. q.within (p.within all);
            total = λ g. omega (arith, p.total g, q.total g, sum_by-cons (λ o. cond (c == seated) (cond (g o) 1 0) 0 + cond (c == o) (cond (g seated) 1 0) 0) other left);
          });
    }

-- a table is of the lists once a student is seated
pub table-seated : (seats : List (List ℕ)) (n : ℕ) (table table' : List RowSeen) (student class : ℕ) → IsTableOf seats n table → AreBetween class (list_of seats student) table [] table' → student < length seats → All (Ascends 0 n) seats → is_listed class (list_of seats student) ≡ false
    → IsTableOf (slice_set seats student (with_class class (list_of seats student))) n table'
table-seated seats n table table' student class kept between lt up free = record {
  whole = λ c within. between.same ∙ kept.whole c (omega (arith, within, between.same));
  long = λ c within. between.long c ∙ kept.long c (omega (arith, within, between.same));
  rows = λ c.
      let list = list_of seats student in
      elim (cases_lt c (length table)) [
        | inl within ↦
            carry (IsPaidRow seats n c) (IsPaidRow (slice_set seats student (with_class class list)) n c) (λ row row'. IsBetween (length table) class c list row [] row') (table_row table c).pairs (table_row table' c).pairs (kept.rows c) (between.rows c)
            (λ a b was is. record {
              within = rw (kept.whole c within) at is.within was.within;
              paid = λ _ t spots x.
                  let g : ℕ → Bool = λ o. are_in_conflict t (Some x) (spot_at spots o) in
                  let before : numbers_where g a ≡ class_conflicts t spots seats c x = was.paid up t spots x in
                  let all : numbers_where g b ≡ class_conflicts t spots (slice_set seats student (with_class class list)) c x =
                  omega (arith, is.total g, before, pays-more t spots seats student c class x 0 n lt (All-get_or (Ascends 0 n) seats student [] lt up) free) in
                  all;
            })
        | inr past ↦ rw (get_or_past table' c (record { classes = 0; pairs = None }) (omega (arith, past, between.same))) tt
      ];
}

-- or leaves
pub table-left : (seats : List (List ℕ)) (n : ℕ) (table table' : List RowSeen) (student class : ℕ) → IsTableOf seats n table → AreBetween class [] table (without_class class (list_of seats student)) table' → student < length seats → All (Ascends 0 n) seats → is_listed class (list_of seats student) ≡ true
    → IsTableOf (slice_set seats student (without_class class (list_of seats student))) n table'
table-left seats n table table' student class kept between lt up seated = record {
  whole = λ c within. between.same ∙ kept.whole c (omega (arith, within, between.same));
  long = λ c within. between.long c ∙ kept.long c (omega (arith, within, between.same));
  rows = λ c.
      let left = without_class class (list_of seats student) in
      elim (cases_lt c (length table)) [
        | inl within ↦
            carry (IsPaidRow seats n c) (IsPaidRow (slice_set seats student left) n c) (λ row row'. IsBetween (length table) class c [] row left row') (table_row table c).pairs (table_row table' c).pairs (kept.rows c) (between.rows c)
            (λ a b was is. record {
              within = rw (kept.whole c within) at is.within was.within;
              paid = λ _ t spots x.
                  let g : ℕ → Bool = λ o. are_in_conflict t (Some x) (spot_at spots o) in
                  let before : numbers_where g a ≡ class_conflicts t spots seats c x = was.paid up t spots x in
                  let all : numbers_where g b ≡ class_conflicts t spots (slice_set seats student left) c x =
                  omega (arith, is.total g, before, pays-less t spots seats student c class x 0 n lt (All-get_or (Ascends 0 n) seats student [] lt up) seated) in
                  all;
            })
        | inr past ↦ rw (get_or_past table' c (record { classes = 0; pairs = None }) (omega (arith, past, between.same))) tt
      ];
}

no_pairs : (t : Table) (spots : List (Option Spot)) (students c : ℕ) (x : Spot) → class_conflicts t spots (replicate students []) c x ≡ 0
no_pairs t spots zero c x = refl
no_pairs t spots (suc students) c x =
    let one : List ℕ → ℕ = λ l. cond (is_listed c l) (conflicts_with t spots c x l) 0 in
    omega (arith, sum_by-cons one [] (replicate students []), no_pairs t spots students c x)

row-new : (rows n c : ℕ) (P : RowSeen → Type 0) → P (record { classes = n; pairs = Some [] }) → P (record { classes = 0; pairs = None }) → P (table_row (replicate rows (record { classes = n; pairs = Some [] })) c)
row-new zero n c P new none = none
row-new (suc rows) n zero P new none = new
row-new (suc rows) n (suc c) P new none = row-new rows n c P new none

classes-new : (rows n c : ℕ) → c < rows → (table_row (replicate rows (record { classes = n; pairs = Some [] })) c).classes ≡ n
classes-new zero n c within = absurd (omega arith)
classes-new (suc rows) n zero within = refl
classes-new (suc rows) n (suc c) within = classes-new rows n c (omega arith)

-- a new table is of nobody's lists
pub table-new : (students n : ℕ) (table : List RowSeen) → table ≡ replicate (length table) (record { classes = n; pairs = Some [] }) → ((c : ℕ) → c < length table → length table ≡ n) → IsTableOf (replicate students []) n table
table-new students n table new whole = record {
  whole = whole;
  long = λ c within. rw new (classes-new (length table) n c within);
  rows = λ c. rw new (row-new (length table) n c (λ row. IfSome row.pairs (IsPaidRow (replicate students []) n c)) (record { within = All-nil (λ (pair : JointClass). pair.class < n); paid = λ up t spots x. sym (no_pairs t spots students c x) }) tt);
}

found : (A : Type 0) (P Q : A → Type 0) (o : Option A) → IfSome o P → IfSome o Q → IsSome o → (rest : List JointClass) → (f : A → List JointClass) → (R : List JointClass → Type 0) → ((a : A) → P a → Q a → R (f a)) → R (option_map_or f o rest)
found A P Q None p q is rest f R then = absurd (true≢false (sym is))
found A P Q (Some a) p q is rest f R then = then a p q

-- the row of a class in the table is that of the class
pub row-in-table : (seats : List (List ℕ)) (n : ℕ) (table : List RowSeen) (rows : List (Option (List JointClass))) (class : ℕ) → IsTableOf seats n table → class < length table → IsSome (table_row table class).pairs → IfSome (table_row table class).pairs (λ row. length row ≤ (table_row table class).classes)
    → IsRowOf seats n class (row_of table rows class)
row-in-table seats n table rows class kept lt is few =
    found (List JointClass) (IsPaidRow seats n class) (λ row. length row ≤ (table_row table class).classes) (table_row table class).pairs (kept.rows class) few is (kept_row rows class) (λ row. row) (IsRowOf seats n class)
    (λ row of short. record { within = of.within; few = omega (arith, short, kept.long class lt); paid = of.paid })

push-new : (rows n : ℕ) → replicate rows (new_row n) ++ new_row n ∷ [] ≡ replicate (suc rows) (new_row n)
push-new zero n = refl
push-new (suc rows) n = ap (λ (l : List RowSeen). new_row n ∷ l) (push-new rows n)

-- one new row more
pub new-more : (rows n : ℕ) (table table' : List RowSeen) (row : RowSeen) → table' ≡ table ++ row ∷ [] → row ≡ new_row n → table ≡ replicate rows (new_row n) → table' ≡ replicate (rows + 1) (new_row n)
new-more rows n table table' row is new had =
    let next : suc rows ≡ rows + 1 = omega arith in
    is ∙ ap (λ r. table ++ r ∷ []) new ∙ ap (λ l. l ++ new_row n ∷ []) had ∙ push-new rows n ∙ ap (λ k. replicate k (new_row n)) next

pub new-count : (rows n : ℕ) (table : List RowSeen) → table ≡ replicate rows (new_row n) → length table ≡ rows
new-count rows n table had = ap length had ∙ length-replicate rows (new_row n)

-- so they are as many as they are long
pub all-new : (rows n : ℕ) (table : List RowSeen) → table ≡ replicate rows (new_row n) → table ≡ replicate (length table) (new_row n)
all-new rows n table had = had ∙ ap (λ k. replicate k (new_row n)) (sym (new-count rows n table had))

-- a list in order is of classes that there are
pub all-below : (from after : ℕ) (list : List ℕ) → Ascends from after list → All (λ other. other < after) list
all-below from after [] up = All-nil (λ other. other < after)
all-below from after (a ∷ list) up = All-cons (λ other. other < after) a list up.1 (all-below (a + 1) after list up.2)
