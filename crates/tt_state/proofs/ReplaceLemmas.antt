-- The past after a student left classes and got seats in others.
use Rattle.std.proofs.Common.{◌≡◌, ◌∙◌, ℕ, ◌<◌, ◌≤◌, true, false, List, [], ◌∷◌, length, refl, ap, sym, subst, arith}
use Rattle.std.proofs.lemmas.List.{get_or-set_same, set-set, set-get_or}
use Rattle.tt_problem.specs.declared.parts.Parts.{Parts}
use Rattle.tt_base.specs.Lists.{is_listed}
use Rattle.tt_roster.specs.Lists.{Ascends, with_class, without_class}
use Rattle.tt_roster.proofs.ListLemmas.{Ascends-without, has-with, has-without, length-without, with-without}
use Rattle.tt_journal.specs.declared.Entry.{Entry}
use Rattle.tt_journal.specs.declared.Entry.TheVariants.{Left, Seated}
use Rattle.tt_state.specs.Snapshots.{Snapshot, list_in, with_list}
use Rattle.tt_state.specs.History.{HasStep, gone_from, with_seat, without_seat, left_by, seated_by}
use Rattle.tt_state.specs.Past.{HasPastOf, MayJoin, joined, kept_of}
use Rattle.tt_state.specs.Kept.{LeadBack, most_at}
use Rattle.tt_state.proofs.PastLemmas.{past_by, past_same, past_then}
use Rattle.tt_state.proofs.GoneLemmas.{first_gone, kept_all, listed_below, without-with}

-- a list that a student gets in place of another
pub same_list : (s : Snapshot) (student : ℕ) → with_list s student (list_in s student) ≡ s
same_list s student = ap (λ (l : List (List ℕ)). record { plan = s.plan; lists = l; statistics = s.statistics; closures = s.closures; locks = s.locks }) (set-get_or s.lists student [])

pub list_twice : (s : Snapshot) (student : ℕ) (one two : List ℕ) → with_list (with_list s student one) student two ≡ with_list s student two
list_twice s student one two = ap (λ (l : List (List ℕ)). record { plan = s.plan; lists = l; statistics = s.statistics; closures = s.closures; locks = s.locks }) (set-set s.lists student one two)

list_there : (s : Snapshot) (student : ℕ) (list : List ℕ) → student < length s.lists → list_in (with_list s student list) student ≡ list
list_there s student list lt = get_or-set_same s.lists student list [] lt

seat_there : (s : Snapshot) (student class : ℕ) (list : List ℕ) → student < length s.lists → with_seat (with_list s student list) student class ≡ with_list s student (with_class class list)
seat_there s student class list lt = ap (λ l. with_list (with_list s student list) student (with_class class l)) (list_there s student list lt) ∙ list_twice s student list (with_class class list)

leave_there : (s : Snapshot) (student class : ℕ) (list : List ℕ) → student < length s.lists → without_seat (with_list s student list) student class ≡ with_list s student (without_class class list)
leave_there s student class list lt = ap (λ l. with_list (with_list s student list) student (without_class class l)) (list_there s student list lt) ∙ list_twice s student list (without_class class list)

-- undoing that a student left a class
left_one : (s : Snapshot) (student class after : ℕ) (list : List ℕ) → student < length s.lists → Ascends 0 after list → is_listed class list ≡ true → with_seat (with_list s student (without_class class list)) student class ≡ with_list s student list
left_one s student class after list lt up seated = seat_there s student class (without_class class list) lt ∙ ap (with_list s student) (with-without class 0 after list up seated)

-- the past after a student left the classes that go
pub left_past : (s : Snapshot) (student after : ℕ) (classes gone list : List ℕ) (es : List Entry) → student < length s.lists → Ascends 0 after list → gone_from list classes ≡ gone
    → HasPastOf (with_list s student list) es (with_list s student (kept_of list classes)) (left_by student gone es)
left_past s student after classes [] list es lt up is = subst (λ l. HasPastOf (with_list s student list) es (with_list s student l) es) (sym (kept_all list classes is)) (past_same (with_list s student list) es)
left_past s student after classes (class ∷ gone) list es lt up is =
    let first = first_gone list classes class gone is in
    let next = without_class class list in
    subst (λ l. HasPastOf (with_list s student list) es (with_list s student l) (left_by student gone (Left student class ∷ es))) first.kept
    (past_then (with_list s student list) (with_list s student next) (with_list s student (kept_of next classes)) es (Left student class ∷ es) (left_by student gone (Left student class ∷ es))
    (past_by (with_list s student list) (with_seat (with_list s student next) student class) (with_list s student next) es (Left student class ∷ es) (left_one s student class after list lt up first.seated) refl refl refl refl refl)
    (left_past s student after classes gone next (Left student class ∷ es) lt (Ascends-without class 0 after list up) first.gone))

pub left_back : (p : Parts) (s : Snapshot) (student : ℕ) (classes gone list : List ℕ) (es : List Entry) → student < length s.lists → student < length p.students → Ascends 0 (length p.classes) list → length list ≤ most_at p student → gone_from list classes ≡ gone → HasStep es
    → LeadBack p (with_list s student list) es → LeadBack p (with_list s student (kept_of list classes)) (left_by student gone es)
left_back p s student classes [] list es lt within up few is step back = subst (λ l. LeadBack p (with_list s student l) es) (sym (kept_all list classes is)) back
left_back p s student classes (class ∷ gone) list es lt within up few is step back =
    let first = first_gone list classes class gone is in
    let next = without_class class list in
    let free : is_listed class (list_in (with_list s student next) student) ≡ false = ap (is_listed class) (list_there s student next lt) ∙ has-without class 0 (length p.classes) list up in
    let long : length (list_in (with_list s student next) student) ≡ length next = ap length (list_there s student next lt) in
    let less = length-without class 0 (length p.classes) list up first.seated in
    subst (λ l. LeadBack p (with_list s student l) (left_by student gone (Left student class ∷ es))) first.kept
    (left_back p s student classes gone next (Left student class ∷ es) lt within (Ascends-without class 0 (length p.classes) list up) (omega (arith, less, few)) first.gone step
    (step, (record { in_students = within; in_classes = listed_below class 0 (length p.classes) list up first.seated; free = free; spare = omega (arith, long, less, few) }, subst (λ x. LeadBack p x es) (sym (left_one s student class (length p.classes) list lt up first.seated)) back)))

-- undoing that a student got a seat in a class
seated_one : (s : Snapshot) (student class : ℕ) (list : List ℕ) → student < length s.lists → is_listed class list ≡ false → without_seat (with_list s student (with_class class list)) student class ≡ with_list s student list
seated_one s student class list lt free = leave_there s student class (with_class class list) lt ∙ ap (with_list s student) (without-with class list free)

-- the past after a student got a seat in each class that comes
pub seated_past : (s : Snapshot) (student after : ℕ) (list classes : List ℕ) (es : List Entry) → student < length s.lists → MayJoin after list classes → HasPastOf (with_list s student list) es (with_list s student (joined list classes)) (seated_by student classes es)
seated_past s student after list [] es lt may = past_same (with_list s student list) es
seated_past s student after list (class ∷ classes) es lt may =
    let next = with_class class list in
    past_then (with_list s student list) (with_list s student next) (with_list s student (joined next classes)) es (Seated student class ∷ es) (seated_by student classes (Seated student class ∷ es))
    (past_by (with_list s student list) (without_seat (with_list s student next) student class) (with_list s student next) es (Seated student class ∷ es) (seated_one s student class list lt may.1) refl refl refl refl refl)
    (seated_past s student after next classes (Seated student class ∷ es) lt may.2)

pub seated_back : (p : Parts) (s : Snapshot) (student : ℕ) (list classes : List ℕ) (es : List Entry) → student < length s.lists → student < length p.students → MayJoin (length p.classes) list classes → HasStep es
    → LeadBack p (with_list s student list) es → LeadBack p (with_list s student (joined list classes)) (seated_by student classes es)
seated_back p s student list [] es lt within may step back = back
seated_back p s student list (class ∷ classes) es lt within may step back =
    let next = with_class class list in
    let there : is_listed class (list_in (with_list s student next) student) ≡ true = ap (is_listed class) (list_there s student next lt) ∙ has-with class list in
    seated_back p s student next classes (Seated student class ∷ es) lt within may.2 step
    (step, (record { in_students = within; in_classes = may.0; seated = there }, subst (λ x. LeadBack p x es) (sym (seated_one s student class list lt may.1)) back))
