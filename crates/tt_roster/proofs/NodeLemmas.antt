-- The nodes that stand beside the classes of a row, and those at which the students of a class stand.
use Rattle.std.proofs.Common.{◌≡◌, ◌≢◌, ◌∙◌, ℕ, ◌<◌, Bool, true, false, List, [], ◌∷◌, length, get_or, drop, map, replicate, nat_eq, nat_lt, refl, sym, ap, zero, suc, arith, inl, inr}
use Rattle.std.specs.Prelude.{slice_set, slice_index, slice_index_or, ◌==◌}
use Rattle.std.specs.List.{insert, remove, position_or_len}
use Rattle.std.proofs.lemmas.Bool.{cases_Bool, cases_eq, cases_lt, eq-eqb, ne_eqb, lt-ltb, le-ltb}
use Rattle.std.proofs.lemmas.List.{get_or-set_same, get_or-set_other, get_or_read}
use Rattle.std.proofs.Math.Seq.{drop-cons}
use Rattle.tt_base.specs.Lists.{is_listed}
use Rattle.tt_pool.specs.Chains.{uses}
use Rattle.tt_pool.proofs.Paths.{uses_other}
use Rattle.tt_roster.specs.Listed.{ListedClasses, node_in, node_of}
use Rattle.tt_roster.specs.Attendees.{AreNodesOf}
use Rattle.tt_roster.specs.Seen.{classes_in, no_row, row_at}
use Rattle.tt_roster.specs.Lists.{Ascends, with_class, without_class, list_of}
use Rattle.tt_roster.proofs.ListLemmas.{has-without}
use Rattle.tt_roster.proofs.StudentLemmas.{has-with_other, has-without_other, no_list}

-- where a class stands in a list, place by place
pub position_here : (class i : ℕ) (list : List ℕ) → i < length list → class ≡ get_or list i 0 → position_or_len (nat_eq class) (drop i list) ≡ 0
position_here class i list lt here = rw (drop-cons list i 0 lt, eq-eqb class (get_or list i 0) here) refl

pub position_passed : (class i : ℕ) (list : List ℕ) → i < length list → class ≢ get_or list i 0
    → position_or_len (nat_eq class) (drop i list) ≡ suc (position_or_len (nat_eq class) (drop (suc i) list))
position_passed class i list lt ne = rw (drop-cons list i 0 lt, ne_eqb class (get_or list i 0) ne) (omega arith)

pub listed_passed : (class i : ℕ) (list : List ℕ) → i < length list → class ≢ get_or list i 0 → is_listed class (drop i list) ≡ true
    → is_listed class (drop (suc i) list) ≡ true
listed_passed class i list lt ne has = rw (drop-cons list i 0 lt, ne_eqb class (get_or list i 0) ne) at has

-- the first element is passed over
position_behind : (p : ℕ → Bool) (a : ℕ) (xs : List ℕ) → p a ≡ false → position_or_len p (a ∷ xs) ≡ suc (position_or_len p xs)
position_behind p a xs fails = rw fails (omega arith)

position_first : (p : ℕ → Bool) (a : ℕ) (xs : List ℕ) → p a ≡ true → position_or_len p (a ∷ xs) ≡ 0
position_first p a xs passes = rw passes refl

-- the list without a class is the list without its place
pub without_is_remove : (class : ℕ) (list : List ℕ) → without_class class list ≡ remove list (position_or_len (nat_eq class) list)
without_is_remove class [] = refl
without_is_remove class (a ∷ list) = elim (cases_eq class a) [
  | inl same ↦ rw (eq-eqb class a same) refl
  | inr apart ↦
      let fails = ne_eqb class a apart in
      rw (position_behind (nat_eq class) a list fails, fails) (ap (λ l. a ∷ l) (without_is_remove class list))
]

-- a class more: its node stands beside it
pub node_in-here : (class node : ℕ) (list nodes : List ℕ) → length nodes ≡ length list → is_listed class list ≡ false
    → node_in class (insert list (position_or_len (nat_lt class) list) class) (insert nodes (position_or_len (nat_lt class) list) node) ≡ node
node_in-here class node [] [] len free = rw (eq-eqb class class refl) refl
node_in-here class node [] (n ∷ nodes) len free = absurd (omega (arith, len))
node_in-here class node (a ∷ list) [] len free = absurd (omega (arith, len))
node_in-here class node (a ∷ list) (n ∷ nodes) len free = elim (cases_lt class a) [
  | inl before ↦ rw (position_first (nat_lt class) a list (lt-ltb class a before), eq-eqb class class refl) refl
  | inr after ↦ elim (cases_Bool (nat_eq class a)) [
    | inl same ↦ absurd (cc (free, same))
    | inr apart ↦
        let rest : is_listed class list ≡ false = rw apart at free in
        rw (position_behind (nat_lt class) a list (le-ltb class a after), apart) (node_in-here class node list nodes (omega (arith, len)) rest)
  ]
]

-- and each other class keeps its node
pub node_in-more : (other class node : ℕ) (list nodes : List ℕ) → length nodes ≡ length list → other ≢ class
    → node_in other (insert list (position_or_len (nat_lt class) list) class) (insert nodes (position_or_len (nat_lt class) list) node) ≡ node_in other list nodes
node_in-more other class node [] [] len ne = rw (ne_eqb other class ne) refl
node_in-more other class node [] (n ∷ nodes) len ne = absurd (omega (arith, len))
node_in-more other class node (a ∷ list) [] len ne = absurd (omega (arith, len))
node_in-more other class node (a ∷ list) (n ∷ nodes) len ne = elim (cases_lt class a) [
  | inl before ↦ rw (position_first (nat_lt class) a list (lt-ltb class a before), ne_eqb other class ne) refl
  | inr after ↦
      rw (position_behind (nat_lt class) a list (le-ltb class a after), node_in-more other class node list nodes (omega (arith, len)) ne) refl
]

-- the node at the place of a class
pub node_in-at : (class : ℕ) (list nodes : List ℕ) → length nodes ≡ length list
    → slice_index nodes (position_or_len (nat_eq class) list) ≡ node_in class list nodes
node_in-at class [] [] len = refl
node_in-at class [] (n ∷ nodes) len = absurd (omega (arith, len))
node_in-at class (a ∷ list) [] len = absurd (omega (arith, len))
node_in-at class (a ∷ list) (n ∷ nodes) len = elim (cases_Bool (nat_eq class a)) [
  | inl same ↦ rw (position_first (nat_eq class) a list same, same) refl
  | inr apart ↦ rw (position_behind (nat_eq class) a list apart, apart) (node_in-at class list nodes (omega (arith, len)))
]

-- a class less: each other class keeps its node
pub node_in-less : (other class : ℕ) (list nodes : List ℕ) → length nodes ≡ length list → other ≢ class
    → node_in other (remove list (position_or_len (nat_eq class) list)) (remove nodes (position_or_len (nat_eq class) list)) ≡ node_in other list nodes
node_in-less other class [] [] len ne = refl
node_in-less other class [] (n ∷ nodes) len ne = absurd (omega (arith, len))
node_in-less other class (a ∷ list) [] len ne = absurd (omega (arith, len))
node_in-less other class (a ∷ list) (n ∷ nodes) len ne = elim (cases_eq class a) [
  | inl same ↦
      let apart : other ≢ a = λ e. ne (e ∙ sym same) in
      rw (position_first (nat_eq class) a list (eq-eqb class a same), ne_eqb other a apart) refl
  | inr apart ↦
      rw (position_behind (nat_eq class) a list (ne_eqb class a apart), node_in-less other class list nodes (omega (arith, len)) ne) refl
]

-- the node of another in a list, where one is gone
node-left : (s gone : ℕ) (list nodes : List ℕ) → s ≢ gone → 0 < uses gone list
    → slice_index (remove nodes (position_or_len (λ x. x == gone) list)) (position_or_len (λ x. x == s) (remove list (position_or_len (λ x. x == gone) list))) ≡ slice_index nodes (position_or_len (λ x. x == s) list)
node-left s gone [] nodes ne found = absurd (omega (arith, found))
node-left s gone (a ∷ list) nodes ne found = elim (cases_eq a gone) [
  | inl same ↦
      let other : (a == s) ≡ false = ne_eqb a s (λ e. ne (sym e ∙ same)) in
      rw (position_first (λ x. x == gone) a list (eq-eqb a gone same), position_behind (λ x. x == s) a list other) (without_first nodes (position_or_len (λ x. x == s) list))
  | inr apart ↦
      let rest = node-left s gone list in
      let there : 0 < uses gone list = omega (arith, found, uses_other gone a list apart) in
      rw (position_behind (λ x. x == gone) a list (ne_eqb a gone apart)) (elim (cases_Bool (a == s)) [
        | inl here ↦ rw (position_first (λ x. x == s) a list here, position_first (λ x. x == s) a (remove list (position_or_len (λ x. x == gone) list)) here) (first_kept nodes (position_or_len (λ x. x == gone) list))
        | inr other ↦
            rw (position_behind (λ x. x == s) a list other, position_behind (λ x. x == s) a (remove list (position_or_len (λ x. x == gone) list)) other)
            (behind nodes (position_or_len (λ x. x == gone) list) (position_or_len (λ x. x == s) (remove list (position_or_len (λ x. x == gone) list))) (position_or_len (λ x. x == s) list) (λ l. rest l ne there))
      ])
]
  where
    without_first : (ns : List ℕ) (k : ℕ) → slice_index (remove ns 0) k ≡ slice_index ns (suc k)
    without_first [] k = refl
    without_first (n ∷ ns) k = refl

    first_kept : (ns : List ℕ) (q : ℕ) → slice_index (remove ns (suc q)) 0 ≡ slice_index ns 0
    first_kept [] q = refl
    first_kept (n ∷ ns) q = refl

    behind : (ns : List ℕ) (q k m : ℕ) → ((l : List ℕ) → slice_index (remove l q) k ≡ slice_index l m) → slice_index (remove ns (suc q)) (suc k) ≡ slice_index ns (suc m)
    behind [] q k m is = refl
    behind (n ∷ ns) q k m is = is ns

-- the row of a student has the student's list
pub list-row : (rows : List ListedClasses) (student : ℕ) → list_of (map classes_in rows) student ≡ (row_at rows student).classes
list-row [] student = refl
list-row (row ∷ rows) zero = refl
list-row (row ∷ rows) (suc student) = list-row rows student

-- the nodes are those of the students who have each class
abbrev AreNodes : List (List ℕ) → List (List ℕ) → List ListedClasses → Type 0
AreNodes nodes lists rows = (class : ℕ) → AreNodesOf (slice_index_or nodes class []) (slice_index_or lists class []) rows class

-- where a row becomes another, which has of another class what it had, the nodes of that class stay
nodes-other : (nodes students : List ℕ) (rows : List ListedClasses) (student class : ℕ) (row new : ListedClasses) → AreNodesOf nodes students rows class → student < length rows
    → row ≡ row_at rows student → is_listed class new.classes ≡ is_listed class row.classes → node_of new class ≡ node_of row class
    → AreNodesOf nodes students (slice_set rows student new) class
nodes-other nodes students rows student class row new are lt at_row same gives = λ s has. elim (cases_eq s student) [
  | inl at ↦
      let now : row_at (slice_set rows student new) s ≡ new = ap (row_at (slice_set rows student new)) at ∙ get_or-set_same rows student new no_row lt in
      let was : row_at rows s ≡ row = ap (row_at rows) at ∙ sym at_row in
      let had : is_listed class (row_at rows s).classes ≡ true =
      ap (λ (r : ListedClasses). is_listed class r.classes) was ∙ sym same ∙ ap (λ (r : ListedClasses). is_listed class r.classes) (sym now) ∙ has in
      are s had ∙ ap (λ (r : ListedClasses). node_of r class) was ∙ sym gives ∙ ap (λ (r : ListedClasses). node_of r class) (sym now)
  | inr apart ↦
      let kept : row_at (slice_set rows student new) s ≡ row_at rows s = get_or-set_other rows student s new no_row apart in
      are s (ap (λ (r : ListedClasses). is_listed class r.classes) (sym kept) ∙ has) ∙ ap (λ (r : ListedClasses). node_of r class) (sym kept)
]

-- the nodes, where a student gets a class
pub nodes-seat : (lists nodes : List (List ℕ)) (rows : List ListedClasses) (student class node : ℕ) (row new : ListedClasses) → AreNodes nodes lists rows
    → student < length rows → class < length lists → class < length nodes → row ≡ get_or rows student row → new.classes ≡ with_class class row.classes → node_of new class ≡ node
    → ((other : ℕ) → other ≢ class → node_of new other ≡ node_of row other)
    → AreNodes (slice_set nodes class (node ∷ slice_index_or nodes class [])) (slice_set lists class (student ∷ slice_index_or lists class [])) (slice_set rows student new)
nodes-seat lists nodes rows student class node row new are lt within within_nodes read classes beside others = λ other.
    let at_row : row ≡ row_at rows student = get_or_read rows student row lt read no_row in
    let old = slice_index_or lists class [] in
    elim (cases_eq other class) [
      | inl same ↦
          rw (same, get_or-set_same lists class (student ∷ old) [] within, get_or-set_same nodes class (node ∷ slice_index_or nodes class []) [] within_nodes) (λ s has. elim (cases_eq s student) [
            | inl at ↦
                let now : row_at (slice_set rows student new) s ≡ new = ap (row_at (slice_set rows student new)) at ∙ get_or-set_same rows student new no_row lt in
                rw (position_first (λ x. x == s) student old (eq-eqb student s (sym at)), now) (sym beside)
            | inr apart ↦
                let kept : row_at (slice_set rows student new) s ≡ row_at rows s = get_or-set_other rows student s new no_row apart in
                rw (position_behind (λ x. x == s) student old (ne_eqb student s (λ e. apart (sym e))), kept) (are class s (ap (λ (r : ListedClasses). is_listed class r.classes) (sym kept) ∙ has))
          ])
      | inr apart ↦
          rw (get_or-set_other lists class other (student ∷ old) [] apart, get_or-set_other nodes class other (node ∷ slice_index_or nodes class []) [] apart)
          (nodes-other (slice_index_or nodes other []) (slice_index_or lists other []) rows student other row new (are other) lt at_row
          (ap (is_listed other) classes ∙ has-with_other other class row.classes apart) (others other apart))
    ]

-- the nodes, where a class goes from a student
pub nodes-leave : (lists nodes : List (List ℕ)) (rows : List ListedClasses) (student class after : ℕ) (row new : ListedClasses) → AreNodes nodes lists rows
    → student < length rows → class < length lists → class < length nodes → row ≡ get_or rows student row → 0 < uses student (slice_index_or lists class [])
    → Ascends 0 after row.classes → is_listed class row.classes ≡ true → new.classes ≡ without_class class row.classes
    → ((other : ℕ) → other ≢ class → node_of new other ≡ node_of row other)
    → AreNodes (slice_set nodes class (remove (slice_index_or nodes class []) (position_or_len (λ x. x == student) (slice_index_or lists class []))))
    (slice_set lists class (remove (slice_index_or lists class []) (position_or_len (λ x. x == student) (slice_index_or lists class [])))) (slice_set rows student new)
nodes-leave lists nodes rows student class after row new are lt within within_nodes read found up had classes others = λ other.
    let at_row : row ≡ row_at rows student = get_or_read rows student row lt read no_row in
    let old = slice_index_or lists class [] in
    let place = position_or_len (λ x. x == student) old in
    elim (cases_eq other class) [
      | inl same ↦
          rw (same, get_or-set_same lists class (remove old place) [] within, get_or-set_same nodes class (remove (slice_index_or nodes class []) place) [] within_nodes) (λ s has. elim (cases_eq s student) [
            | inl at ↦
                let now : row_at (slice_set rows student new) s ≡ new = ap (row_at (slice_set rows student new)) at ∙ get_or-set_same rows student new no_row lt in
                let gone : is_listed class new.classes ≡ false = ap (is_listed class) classes ∙ has-without class 0 after row.classes up in
                absurd (cc (has, now, gone))
            | inr apart ↦
                let kept : row_at (slice_set rows student new) s ≡ row_at rows s = get_or-set_other rows student s new no_row apart in
                rw kept (node-left s student old (slice_index_or nodes class []) apart found ∙ are class s (ap (λ (r : ListedClasses). is_listed class r.classes) (sym kept) ∙ has))
          ])
      | inr apart ↦
          rw (get_or-set_other lists class other (remove old place) [] apart, get_or-set_other nodes class other (remove (slice_index_or nodes class []) place) [] apart)
          (nodes-other (slice_index_or nodes other []) (slice_index_or lists other []) rows student other row new (are other) lt at_row
          (ap (is_listed other) classes ∙ has-without_other other class 0 after row.classes up had apart) (others other apart))
    ]

-- a student who has a class stands at the node that the row has for it
pub node-found : (lists nodes : List (List ℕ)) (rows : List ListedClasses) (student class node : ℕ) (row : ListedClasses) → AreNodes nodes lists rows → student < length rows
    → row ≡ get_or rows student row → is_listed class row.classes ≡ true → node ≡ node_of row class
    → node ≡ slice_index (slice_index_or nodes class []) (position_or_len (λ x. x == student) (slice_index_or lists class []))
node-found lists nodes rows student class node row are lt read had is =
    let at_row : row ≡ row_at rows student = get_or_read rows student row lt read no_row in
    is ∙ ap (λ (r : ListedClasses). node_of r class) at_row ∙ sym (are class student (ap (λ (r : ListedClasses). is_listed class r.classes) (sym at_row) ∙ had))

-- nobody has a class, and no node stands beside one
pub nodes-none : (lists nodes : List (List ℕ)) (rows : List ListedClasses) (students : ℕ) → map classes_in rows ≡ replicate students [] → AreNodes nodes lists rows
nodes-none lists nodes rows students free = λ class student has.
    let none : (row_at rows student).classes ≡ [] = sym (list-row rows student) ∙ ap (λ (l : List (List ℕ)). list_of l student) free ∙ no_list students student in
    absurd (cc (has, none))
