-- Classes that go from a list, that stay on it, and that come to it.
use Rattle.std.proofs.Common.{◌≡◌, ◌≢◌, ◌∙◌, ℕ, ◌+◌, ◌<◌, ◌≤◌, Bool, true, false, List, [], ◌∷◌, length, drop, get_or, suc, nat_eq, refl, sym, ap, arith, inl, inr}
use Rattle.std.specs.Prelude.{◌&&◌, ◌||◌, not, All}
use Rattle.std.specs.List.{filter}
use Rattle.std.proofs.Math.Seq.{drop-cons}
use Rattle.std.proofs.lemmas.Bool.{cases_Bool, cases_eq, cases_lt, eq-eqb, ne_eqb, lt-ltb, le-ltb}
use Rattle.std.proofs.lemmas.List.Elements.{All-head, All-tail}
use Rattle.tt_base.specs.Lists.{is_listed}
use Rattle.tt_roster.specs.Lists.{Ascends, with_class, without_class}
use Rattle.tt_roster.proofs.ListLemmas.{Ascends-lower, Ascends-with, has-below, length-with}
use Rattle.tt_struct.specs.Enrolments.{has_no_repeat}
use Rattle.tt_state.specs.Snapshots.{classes_in_order}
use Rattle.tt_state.specs.History.{come_to, gone_from}
use Rattle.tt_state.specs.Past.{MayJoin, joined, kept_of}
use Rattle.tt_state.proofs.OrderLemmas.{any-with}
use Rattle.tt_state.proofs.SeatLemmas.{has-ordered, length-ordered, not_first, ordered_ascends, second}

later : (x y : Bool) → y ≡ true → (x || y) ≡ true
later true y is = refl
later false y is = is

-- what is listed after a filter
listed-filter : (f : ℕ → Bool) (c : ℕ) (list : List ℕ) → is_listed c (filter f list) ≡ (is_listed c list && f c)
listed-filter f c [] = refl
listed-filter f c (a ∷ list) = elim (cases_eq c a) [
  | inl same ↦ elim (cases_Bool (f a)) [
    | inl takes ↦ let here : f c ≡ true = ap f same ∙ takes in rw (takes, eq-eqb c a same, here) refl
    | inr leaves ↦ let here : f c ≡ false = ap f same ∙ leaves in rw (leaves, eq-eqb c a same, here) (listed-filter f c list ∙ rw here (none (is_listed c list)))
  ]
  | inr apart ↦ elim (cases_Bool (f a)) [
    | inl takes ↦ rw (takes, ne_eqb c a apart) (listed-filter f c list)
    | inr leaves ↦ rw (leaves, ne_eqb c a apart) (listed-filter f c list)
  ]
]
  where
    none : (x : Bool) → (x && false) ≡ false
    none true = refl
    none false = refl

-- the first class that goes from a list, and the classes that go and stay once it went
pub record IsFirstGone (list classes : List ℕ) (class : ℕ) (rest : List ℕ) : Type 0 where
  pub seated : is_listed class list ≡ true
  pub apart : is_listed class classes ≡ false
  pub gone : gone_from (without_class class list) classes ≡ rest
  pub kept : kept_of (without_class class list) classes ≡ kept_of list classes

pub first_gone : (list classes : List ℕ) (class : ℕ) (rest : List ℕ) → gone_from list classes ≡ class ∷ rest → IsFirstGone list classes class rest
first_gone [] classes class rest is = absurd (cc is)
first_gone (a ∷ list) classes class rest is = elim (cases_Bool (is_listed a classes)) [
  | inl there ↦
      let next = first_gone list classes class rest (rw there at is) in
      let other : nat_eq class a ≡ false = ne_eqb class a (λ same. absurd (let here : is_listed a classes ≡ false = sym (ap (λ c. is_listed c classes) same) ∙ next.apart in cc (there, here))) in
      record {
        seated = rw other next.seated;
        apart = next.apart;
        gone = rw (other, there) next.gone;
        kept = rw (other, there) (ap (λ l. a ∷ l) next.kept);
      }
  | inr gone ↦
      let here : a ∷ gone_from list classes ≡ class ∷ rest = rw gone at is in
      let same : class ≡ a = cc here in
      let behind : gone_from list classes ≡ rest = cc here in
      record {
        seated = rw (eq-eqb class a same) refl;
        apart = ap (λ c. is_listed c classes) same ∙ gone;
        gone = rw (eq-eqb class a same) behind;
        kept = rw (eq-eqb class a same, gone) refl;
      }
]

-- the classes below the first that goes are in the new list
pub passed_first : (from after : ℕ) (list classes : List ℕ) (class : ℕ) (rest : List ℕ) → Ascends from after list → gone_from list classes ≡ class ∷ rest → (c : ℕ) → c < class → is_listed c list ≡ true → is_listed c classes ≡ true
passed_first from after [] classes class rest up is c lt has = absurd (cc is)
passed_first from after (a ∷ list) classes class rest up is c lt has = elim (cases_eq c a) [
  | inl same ↦ elim (cases_Bool (is_listed a classes)) [
    | inl there ↦ rw same there
    | inr gone ↦ absurd (let here : a ∷ gone_from list classes ≡ class ∷ rest = rw gone at is in let first : a ≡ class = cc here in omega arith)
  ]
  | inr apart ↦
      let behind : is_listed c list ≡ true = rw (ne_eqb c a apart) at has in
      elim (cases_Bool (is_listed a classes)) [
        | inl there ↦ passed_first (a + 1) after list classes class rest up.2 (rw there at is) c lt behind
        | inr gone ↦ absurd (let here : a ∷ gone_from list classes ≡ class ∷ rest = rw gone at is in
            let first : a ≡ class = cc here in
            let none : is_listed c list ≡ false = has-below c (a + 1) after list up.2 (omega arith) in
            cc (behind, none))
      ]
]

-- where no class goes, all stay
pub kept_all : (list classes : List ℕ) → gone_from list classes ≡ [] → kept_of list classes ≡ list
kept_all [] classes none = refl
kept_all (a ∷ list) classes none = elim (cases_Bool (is_listed a classes)) [
  | inl there ↦ rw there (ap (λ l. a ∷ l) (kept_all list classes (rw there at none)))
  | inr gone ↦ absurd (let some : a ∷ gone_from list classes ≡ [] = rw gone at none in cc some)
]

-- none goes of those that stay
pub kept_stay : (list classes : List ℕ) → gone_from (kept_of list classes) classes ≡ []
kept_stay [] classes = refl
kept_stay (a ∷ list) classes = elim (cases_Bool (is_listed a classes)) [
  | inl there ↦ rw (there, there) (kept_stay list classes)
  | inr gone ↦ rw gone (kept_stay list classes)
]

-- all go where the list is empty
pub gone_all : (list : List ℕ) → gone_from list [] ≡ list
gone_all [] = refl
gone_all (a ∷ list) = ap (λ l. a ∷ l) (gone_all list)

pub Ascends-kept : (from after : ℕ) (list classes : List ℕ) → Ascends from after list → Ascends from after (kept_of list classes)
Ascends-kept from after [] classes up = tt
Ascends-kept from after (a ∷ list) classes up = elim (cases_Bool (is_listed a classes)) [
  | inl there ↦ rw there (up.0, up.1, Ascends-kept (a + 1) after list classes up.2)
  | inr gone ↦ rw gone (Ascends-lower (a + 1) from after (kept_of list classes) (Ascends-kept (a + 1) after list classes up.2) (omega (arith, up.0)))
]

-- no more go than there are
pub few_gone : (list classes : List ℕ) → length (gone_from list classes) ≤ length list
few_gone [] classes = omega arith
few_gone (a ∷ list) classes = elim (cases_Bool (is_listed a classes)) [
  | inl there ↦ rw there (omega (arith, few_gone list classes))
  | inr gone ↦ rw gone (omega (arith, few_gone list classes))
]

-- the same come to lists that have the same of the classes
pub come_same : (one two classes : List ℕ) → ((c : ℕ) → is_listed c classes ≡ true → is_listed c one ≡ is_listed c two) → come_to one classes ≡ come_to two classes
come_same one two [] same = refl
come_same one two (a ∷ classes) same =
    let here : is_listed a one ≡ is_listed a two = same a (rw (eq-eqb a a refl) refl) in
    let rest = come_same one two classes (λ c has. same c (later (nat_eq c a) (is_listed c classes) has)) in
    elim (cases_Bool (is_listed a two)) [
      | inl there ↦ rw (here, there) rest
      | inr free ↦ rw (here, free) (ap (λ l. a ∷ l) rest)
    ]

-- the same classes come where those that don't stay went
pub come_kept : (list classes : List ℕ) → come_to (kept_of list classes) classes ≡ come_to list classes
come_kept list classes = come_same (kept_of list classes) list classes (λ c has. listed-filter (λ a. is_listed a classes) c list ∙ rw has (whole (is_listed c list)))
  where
    whole : (x : Bool) → (x && true) ≡ x
    whole true = refl
    whole false = refl

-- a class of a list is below its end
pub listed_below : (class from after : ℕ) (list : List ℕ) → Ascends from after list → is_listed class list ≡ true → class < after
listed_below class from after [] up has = absurd (cc has)
listed_below class from after (a ∷ list) up has = elim (cases_eq class a) [
  | inl same ↦ omega (arith, up.1)
  | inr apart ↦ listed_below class (a + 1) after list up.2 (rw (ne_eqb class a apart) at has)
]

-- a class that comes and goes again
pub without-with : (class : ℕ) (list : List ℕ) → is_listed class list ≡ false → without_class class (with_class class list) ≡ list
without-with class [] free = rw (eq-eqb class class refl) refl
without-with class (a ∷ list) free = elim (cases_eq class a) [
  | inl same ↦ absurd (let there : is_listed class (a ∷ list) ≡ true = rw (eq-eqb class a same) refl in cc (there, free))
  | inr apart ↦ elim (cases_lt class a) [
    | inl before ↦ rw (lt-ltb class a before, eq-eqb class class refl) refl
    | inr after ↦ rw (le-ltb class a after, ne_eqb class a apart) (ap (λ l. a ∷ l) (without-with class list (rw (ne_eqb class a apart) at free)))
  ]
]

pub joined_ascends : (n : ℕ) (list classes : List ℕ) → Ascends 0 n list → MayJoin n list classes → Ascends 0 n (joined list classes)
joined_ascends n list [] up may = up
joined_ascends n list (class ∷ classes) up may = joined_ascends n (with_class class list) classes (Ascends-with class 0 n list up (omega arith) may.0 may.1) may.2

pub length-joined : (list classes : List ℕ) → length (joined list classes) ≡ length list + length classes
length-joined list [] = omega arith
length-joined list (class ∷ classes) = omega (arith, length-joined (with_class class list) classes, length-with class list)

listed-joined : (c : ℕ) (list classes : List ℕ) → is_listed c (joined list classes) ≡ (is_listed c list || is_listed c classes)
listed-joined c list [] = sym (or_none (is_listed c list))
  where
    or_none : (x : Bool) → (x || false) ≡ x
    or_none true = refl
    or_none false = refl
listed-joined c list (class ∷ classes) =
    listed-joined c (with_class class list) classes ∙ ap (λ b. b || is_listed c classes) (any-with (nat_eq c) class list) ∙ turned (nat_eq c class) (is_listed c list) (is_listed c classes)
  where
    turned : (x y z : Bool) → ((x || y) || z) ≡ (y || (x || z))
    turned true true z = refl
    turned true false z = refl
    turned false y z = refl

-- a class more that isn't among the others changes none of them
pub with_same : (a : ℕ) (list old classes : List ℕ) → has_no_repeat (a ∷ classes) ≡ true → ((c : ℕ) → is_listed c classes ≡ true → is_listed c list ≡ is_listed c old) → (c : ℕ) → is_listed c classes ≡ true → is_listed c (with_class a list) ≡ is_listed c old
with_same a list old classes once same c has =
    let free : is_listed a classes ≡ false = not_first (is_listed a classes) (has_no_repeat classes) once in
    let apart : nat_eq c a ≡ false = ne_eqb c a (λ e. absurd (let there : is_listed a classes ≡ true = sym (ap (λ d. is_listed d classes) e) ∙ has in cc (there, free))) in
    any-with (nat_eq c) a list ∙ rw apart (same c has)

-- the classes of a list may join another, where that has of them what an old list has, and they are those that come to it
pub come_may_join : (n : ℕ) (list old classes : List ℕ) → All (λ class. class < n) classes → has_no_repeat classes ≡ true → ((c : ℕ) → is_listed c classes ≡ true → is_listed c list ≡ is_listed c old) → MayJoin n list (come_to old classes)
come_may_join n list old [] all once same = tt
come_may_join n list old (a ∷ classes) all once same =
    let all' = All-tail (λ class. class < n) a classes all in
    let once' = second (not (is_listed a classes)) (has_no_repeat classes) once in
    let behind = λ (c : ℕ) (has : is_listed c classes ≡ true). same c (later (nat_eq c a) (is_listed c classes) has) in
    elim (cases_Bool (is_listed a old)) [
      | inl there ↦ rw there (come_may_join n list old classes all' once' behind)
      | inr free ↦
          let here : is_listed a list ≡ false = same a (rw (eq-eqb a a refl) refl) ∙ free in
          rw free (All-head (λ class. class < n) a classes all, here, come_may_join n (with_class a list) old classes all' once' (with_same a list old classes once behind))
    ]

-- two lists in order that have the same classes are the same list
pub same_ascending : (from after : ℕ) (one two : List ℕ) → Ascends from after one → Ascends from after two → ((c : ℕ) → is_listed c one ≡ is_listed c two) → one ≡ two
same_ascending from after [] [] up up' same = refl
same_ascending from after [] (b ∷ two) up up' same = absurd (let no : is_listed b (b ∷ two) ≡ false = sym (same b) in let yes : is_listed b (b ∷ two) ≡ true = rw (eq-eqb b b refl) refl in cc (yes, no))
same_ascending from after (a ∷ one) [] up up' same = absurd (let no : is_listed a (a ∷ one) ≡ false = same a in let yes : is_listed a (a ∷ one) ≡ true = rw (eq-eqb a a refl) refl in cc (yes, no))
same_ascending from after (a ∷ one) (b ∷ two) up up' same = elim (cases_eq a b) [
  | inl e ↦
      let rest = same_ascending (a + 1) after one two up.2 (Ascends-lower (b + 1) (a + 1) after two up'.2 (omega arith)) (λ c. elim (cases_eq c a) [
        | inl first ↦ has-below c (a + 1) after one up.2 (omega arith) ∙ sym (has-below c (b + 1) after two up'.2 (omega arith))
        | inr apart ↦ let other : c ≢ b = λ f. apart (f ∙ sym e) in let s = same c in rw (ne_eqb c a apart, ne_eqb c b other) at s
      ]) in
      ap (λ x. x ∷ one) e ∙ ap (λ l. b ∷ l) rest
  | inr apart ↦ absurd (elim (cases_lt a b) [
    | inl lt ↦
        let yes : is_listed a (a ∷ one) ≡ true = rw (eq-eqb a a refl) refl in
        let no : is_listed a (b ∷ two) ≡ false = rw (ne_eqb a b apart) (has-below a (b + 1) after two up'.2 (omega arith)) in
        cc (yes, no, same a)
    | inr le ↦
        let other : b ≢ a = λ f. apart (sym f) in
        let yes : is_listed b (b ∷ two) ≡ true = rw (eq-eqb b b refl) refl in
        let below : b < a = grind arith in
        let no : is_listed b (a ∷ one) ≡ false = rw (ne_eqb b a other) (has-below b (a + 1) after one up.2 (omega arith)) in
        cc (yes, no, same b)
  ])
]

-- a list of which none goes, and those that come, make the new list
pub joined_is : (n : ℕ) (list classes : List ℕ) → Ascends 0 n list → All (λ class. class < n) classes → has_no_repeat classes ≡ true → gone_from list classes ≡ [] → joined list (come_to list classes) ≡ classes_in_order classes
joined_is n list classes up all once none =
    same_ascending 0 n (joined list (come_to list classes)) (classes_in_order classes)
    (joined_ascends n list (come_to list classes) up (come_may_join n list list classes all once (λ c has. refl))) (ordered_ascends n classes all once)
    (λ c. let left : (is_listed c list && not (is_listed c classes)) ≡ false = sym (listed-filter (λ a. not (is_listed a classes)) c list) ∙ ap (is_listed c) none in
    listed-joined c list (come_to list classes) ∙ ap (λ b. is_listed c list || b) (listed-filter (λ a. not (is_listed a list)) c classes) ∙ whole (is_listed c list) (is_listed c classes) left ∙ sym (has-ordered c classes))
  where
    whole : (x y : Bool) → (x && not y) ≡ false → (x || (y && not x)) ≡ y
    whole true true within = refl
    whole true false within = absurd (cc within)
    whole false true within = refl
    whole false false within = refl

-- how many classes the list has and come to it
pub length-come : (n : ℕ) (list classes : List ℕ) → Ascends 0 n list → All (λ class. class < n) classes → has_no_repeat classes ≡ true → gone_from list classes ≡ [] → length list + length (come_to list classes) ≡ length classes
length-come n list classes up all once none = sym (length-joined list (come_to list classes)) ∙ ap length (joined_is n list classes up all once none) ∙ length-ordered classes

-- a list from a place on, and from the next one on
pub drop_next : (list : List ℕ) (i : ℕ) → i < length list → drop i list ≡ get_or list i 0 ∷ drop (i + 1) list
drop_next list i lt = let same : i + 1 ≡ suc i = omega arith in rw same (drop-cons list i 0 lt)

-- the classes of a list that come, as a walk goes on behind its first class, where the list of a student has what it had of those behind
pub record IsNext (old list behind rest all : List ℕ) : Type 0 where
  pub come : come_to old behind ≡ all
  pub same : (c : ℕ) → is_listed c rest ≡ true → is_listed c list ≡ is_listed c old
  pub once : has_no_repeat rest ≡ true

-- the first class comes
pub seat_next : (old list behind rest : List ℕ) (a : ℕ) → behind ≡ a ∷ rest → has_no_repeat behind ≡ true → ((c : ℕ) → is_listed c behind ≡ true → is_listed c list ≡ is_listed c old) → is_listed a list ≡ false
    → IsNext old (with_class a list) behind rest (a ∷ come_to old rest)
seat_next old list behind rest a is once same free =
    let once' : has_no_repeat (a ∷ rest) ≡ true = rw is at once in
    let here : is_listed a behind ≡ true = rw is (rw (eq-eqb a a refl) refl) in
    let new : is_listed a old ≡ false = sym (same a here) ∙ free in
    record {
      come = rw (is, new) refl;
      same = with_same a list old rest once' (λ c has. same c (rw is (later (nat_eq c a) (is_listed c rest) has)));
      once = second (not (is_listed a rest)) (has_no_repeat rest) once';
    }

-- the first class is there already
pub stay_next : (old list behind rest : List ℕ) (a : ℕ) → behind ≡ a ∷ rest → has_no_repeat behind ≡ true → ((c : ℕ) → is_listed c behind ≡ true → is_listed c list ≡ is_listed c old) → is_listed a list ≡ true
    → IsNext old list behind rest (come_to old rest)
stay_next old list behind rest a is once same there =
    let once' : has_no_repeat (a ∷ rest) ≡ true = rw is at once in
    let here : is_listed a behind ≡ true = rw is (rw (eq-eqb a a refl) refl) in
    let had : is_listed a old ≡ true = sym (same a here) ∙ there in
    record {
      come = rw (is, had) refl;
      same = λ c has. same c (rw is (later (nat_eq c a) (is_listed c rest) has));
      once = second (not (is_listed a rest)) (has_no_repeat rest) once';
    }
