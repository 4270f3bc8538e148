-- How many published classes are moved, once some classes get other values.
use Rattle.std.proofs.Common.{◌≡◌, ◌≢◌, ℕ, zero, suc, ◌+◌, ◌<◌, ◌≤◌, Bool, true, false, cond, Option, Some, None, List, [], ◌∷◌, All, length, refl, ap, sym, ◌∙◌, ◌⊎◌, inl, inr, arith, nat_eq}
use Rattle.std.specs.Prelude.{count_by, IfSome, slice_index_or, slice_set}
use Rattle.std.specs.List.{range_with_len, IsDistinct, AllByRecursion}
use Rattle.std.specs.Option.{option_map, option_map_or}
use Rattle.std.proofs.lemmas.Bool.{eqb-false, ne_eqb}
use Rattle.std.proofs.lemmas.Bool.Decides.{eqb_tells}
use Rattle.std.proofs.lemmas.List.{get_or-set_other}
use Rattle.std.proofs.lemmas.List.Sums.{sum_by-cons}
use Rattle.std.proofs.lemmas.List.Elements.{All-cons, All-head, All-tail, All-weaker, recursion_from_All}
use Rattle.std.proofs.lemmas.Map.Keys.{IsDistinct-head, IsDistinct-tail, IsDistinct-cons}
use Rattle.tt_bits.specs.declared.times.Value.{Value}
use Rattle.tt_bits.specs.declared.times.Spot.{Spot}
use Rattle.tt_base.specs.Lists.{is_listed}
use Rattle.tt_problem.specs.declared.parts.Parts.{Parts}
use Rattle.tt_problem.specs.Valid.{IsValid}
use Rattle.tt_plan.specs.Domain.{spot_at_value}
use Rattle.tt_clash.specs.Amounts.{rule_amounts}
use Rattle.tt_clash.specs.ConflictSet.{conflict_set}
use Rattle.tt_clash.specs.Forced.{IsOther}
use Rattle.tt_clash.proofs.SetLemmas.{conflict_set-distinct, conflict_set-others, differ-valid}
use Rattle.tt_score.specs.Forcing.{among}
use Rattle.tt_published.specs.Timetable.{Timetable, IsTimetableOf}
use Rattle.tt_published.specs.Published.{is_moved, moved_in}
use Rattle.tt_published.proofs.MovedLemmas.{moved_few, moved_same}
use Rattle.tt_state.specs.Snapshots.{Snapshot, classes_in_order, with_list}
use Rattle.tt_state.specs.Values.{conflict_set_of, obstacle_of}
use Rattle.tt_state.specs.Desk.{stepped}
use Rattle.tt_state.specs.History.{Contents, desk_of, with_taken}
use Rattle.tt_enrol.specs.Enrolled.{enrolled}
use Rattle.tt_enrol.specs.Students.{classes_found}
use Rattle.tt_state.specs.Forced.{forced}
use Rattle.tt_search.proofs.LateLemmas.{forced_others}
use Rattle.tt_desk.specs.MovedNow.{moved_among}

-- 1 for what holds, else 0
abbrev flag : Bool → ℕ
flag b = cond b 1 0

pub count_cons : (f : ℕ → Bool) (a : ℕ) (xs : List ℕ) → count_by f (a ∷ xs) ≡ flag (f a) + count_by f xs
count_cons f a xs = sum_by-cons (λ k. flag (f k)) a xs

-- two tests that agree from a number on
same_from : (f g : ℕ → Bool) (a n : ℕ) → ((k : ℕ) → a ≤ k → f k ≡ g k) → count_by f (range_with_len a n) ≡ count_by g (range_with_len a n)
same_from f g a zero same = refl
same_from f g a (suc n) same =
    count_cons f a (range_with_len (a + 1) n)
    ∙ ap (λ b. flag b + count_by f (range_with_len (a + 1) n)) (same a (omega arith))
    ∙ ap (λ m. flag (g a) + m) (same_from f g (a + 1) n (λ k above. same k (omega arith)))
    ∙ sym (count_cons g a (range_with_len (a + 1) n))

-- two tests that agree but at one number of a range
one_changed : (f g : ℕ → Bool) (c a n : ℕ) → a ≤ c → c < a + n → ((k : ℕ) → k ≢ c → f k ≡ g k)
    → count_by f (range_with_len a n) + flag (g c) ≡ count_by g (range_with_len a n) + flag (f c)
one_changed f g c a zero from below same = absurd (omega arith)
one_changed f g c a (suc n) from below same = by (eqb_tells a c) (one_changed f g c (a + 1) n)
  where
    by : ((nat_eq a c ≡ true) × (a ≡ c)) ⊎ ((nat_eq a c ≡ false) × (a ≢ c))
        → (a + 1 ≤ c → c < a + 1 + n → ((k : ℕ) → k ≢ c → f k ≡ g k) → count_by f (range_with_len (a + 1) n) + flag (g c) ≡ count_by g (range_with_len (a + 1) n) + flag (f c))
        → count_by f (range_with_len a (suc n)) + flag (g c) ≡ count_by g (range_with_len a (suc n)) + flag (f c)
    by (inl here) rest =
        let at : a ≡ c = here.1 in
        let later = same_from f g (a + 1) n (λ k above. same k (λ e. absurd (omega (arith, e, at, above)))) in
        let at_f : flag (f a) ≡ flag (f c) = ap (λ k. flag (f k)) at in
        let at_g : flag (g a) ≡ flag (g c) = ap (λ k. flag (g k)) at in
        omega (arith, count_cons f a (range_with_len (a + 1) n), count_cons g a (range_with_len (a + 1) n), later, at_f, at_g)
    by (inr other) rest =
        let differ : a ≢ c = other.1 in
        let later = rest (omega (arith, from, differ)) (omega (arith, below)) same in
        let at_a : flag (f a) ≡ flag (g a) = ap flag (same a differ) in
        omega (arith, count_cons f a (range_with_len (a + 1) n), count_cons g a (range_with_len (a + 1) n), later, at_a)

-- a test with another answer at one number
abbrev put : ℕ → Bool → (ℕ → Bool) → ℕ → Bool
put c b f k = cond (nat_eq k c) b (f k)

put_other : (c : ℕ) (b : Bool) (f : ℕ → Bool) (k : ℕ) → nat_eq k c ≡ false → put c b f k ≡ f k
put_other c b f k differ = rw differ refl

put_here : (c : ℕ) (b : Bool) (f : ℕ → Bool) → put c b f c ≡ b
put_here c b f = by (eqb_tells c c)
  where
    by : ((nat_eq c c ≡ true) × (c ≡ c)) ⊎ ((nat_eq c c ≡ false) × (c ≢ c)) → put c b f c ≡ b
    by (inl same) = rw same.0 refl
    by (inr other) = absurd (other.1 refl)

-- two tests that agree on all of a list
same_in : (f g : ℕ → Bool) (xs : List ℕ) → AllByRecursion (λ k. f k ≡ g k) xs → count_by f xs ≡ count_by g xs
same_in f g [] all = refl
same_in f g (x ∷ xs) all = omega (arith, count_cons f x xs, count_cons g x xs, ap flag all.0, same_in f g xs all.1)

apart_other : (c : ℕ) (b : Bool) (f : ℕ → Bool) (xs : List ℕ) → AllByRecursion (λ k. nat_eq c k ≡ false) xs → AllByRecursion (λ k. put c b f k ≡ f k) xs
apart_other c b f [] apart = tt
apart_other c b f (x ∷ xs) apart =
    (put_other c b f x (ne_eqb x c (λ e. eqb-false c x apart.0 (sym e))), apart_other c b f xs apart.1)

-- two tests that agree but on a list of numbers below n, each of which stands in it once
pub count_over : (f g : ℕ → Bool) (n : ℕ) (xs : List ℕ) → IsDistinct nat_eq xs → All (λ k. k < n) xs → ((k : ℕ) → is_listed k xs ≡ false → f k ≡ g k)
    → count_by f (range_with_len 0 n) + count_by g xs ≡ count_by g (range_with_len 0 n) + count_by f xs
count_over f g n [] distinct within same = ap (λ m. m + 0) (same_from f g 0 n (λ k above. same k refl))
count_over f g n (c ∷ xs) distinct within same =
    let h = put c (g c) f in
    let below : c < n = All-head (λ k. k < n) c xs within in
    let one = one_changed f h c 0 n (omega arith) (omega (arith, below)) (λ k differ. sym (put_other c (g c) f k (ne_eqb k c differ))) in
    let at : flag (h c) ≡ flag (g c) = ap flag (put_here c (g c) f) in
    let rest = count_over h g n xs (IsDistinct-tail nat_eq c xs distinct) (All-tail (λ k. k < n) c xs within) (λ k none. later k none (eqb_tells k c)) in
    let among = same_in h f xs (apart_other c (g c) f xs (IsDistinct-head nat_eq c xs distinct)) in
    omega (arith, one, at, rest, among, count_cons f c xs, count_cons g c xs)
  where
    later : (k : ℕ) → is_listed k xs ≡ false → ((nat_eq k c ≡ true) × (k ≡ c)) ⊎ ((nat_eq k c ≡ false) × (k ≢ c)) → put c (g c) f k ≡ g k
    later k none (inl here) = rw here.1 (put_here c (g c) f)
    later k none (inr other) = put_other c (g c) f k other.0 ∙ same k (rw other.0 none)

-- with some classes at other values or none, those of them are counted less that were moved, and those more that are
pub moved_over : (p : Parts) (published : Option Timetable) (before after : List (Option Value)) (classes : List ℕ) → IfSome published (IsTimetableOf p) → IsDistinct nat_eq classes → All (λ c. c < length p.classes) classes
    → ((c : ℕ) → is_listed c classes ≡ false → slice_index_or after c None ≡ slice_index_or before c None)
    → moved_in p published after + moved_among p published before classes ≡ moved_in p published before + moved_among p published after classes
moved_over p None before after classes belongs distinct within others = refl
moved_over p (Some t) before after classes belongs distinct within others =
    let whole : length t.classes ≡ length p.classes = belongs.classes in
    count_over (is_moved p after t) (is_moved p before t) (length t.classes) classes distinct (rw whole within) (λ c none. moved_same p after before t c (others c none))

one_distinct : (class : ℕ) → IsDistinct nat_eq (class ∷ [])
unfolding IsDistinct
one_distinct class = (tt, tt)

-- a class gets another value or none
pub moved_once : (p : Parts) (published : Option Timetable) (plan : List (Option Value)) (class : ℕ) (v : Option Value) → IfSome published (IsTimetableOf p) → class < length p.classes
    → moved_in p published (slice_set plan class v) + moved_among p published plan (class ∷ []) ≡ moved_in p published plan + moved_among p published (slice_set plan class v) (class ∷ [])
moved_once p published plan class v belongs within =
    moved_over p published plan (slice_set plan class v) (class ∷ []) belongs (one_distinct class) (All-cons (λ c. c < length p.classes) class [] within (λ k d below. absurd (omega arith)))
    (λ c none. get_or-set_other plan class c v None (apart c none (eqb_tells c class)))
  where
    apart : (c : ℕ) → is_listed c (class ∷ []) ≡ false → ((nat_eq c class ≡ true) × (c ≡ class)) ⊎ ((nat_eq c class ≡ false) × (c ≢ class)) → c ≢ class
    apart c none (inl same) = absurd (cc (none, same.0))
    apart c none (inr other) = other.1

-- a class stands once among itself and the classes that it pushes out
forced_distinct_at : (p : Parts) (plan : List (Option Value)) (class : ℕ) (x : Option Spot) → IsValid p → IsDistinct nat_eq (class ∷ option_map_or (λ x. conflict_set (rule_amounts p) (among p plan class x)) x [])
forced_distinct_at p plan class None valid = one_distinct class
forced_distinct_at p plan class (Some x) valid =
    let s = among p plan class x in
    let set = conflict_set (rule_amounts p) s in
    let others : All (IsOther s) set = conflict_set-others (rule_amounts p) s in
    IsDistinct-cons nat_eq class set (recursion_from_All (λ d. nat_eq class d ≡ false) set (All-weaker (λ d. IsOther s d) (λ d. nat_eq class d ≡ false) (λ d other. ne_eqb class d (λ e. eqb-false d class other.other (sym e))) set others))
    (conflict_set-distinct (rule_amounts p) s (differ-valid p valid))

forced_distinct : (p : Parts) (s : Snapshot) (class : ℕ) (v : Value) → IsValid p → IsDistinct nat_eq (class ∷ conflict_set_of p s class v)
unfolding conflict_set_of
forced_distinct p s class v valid = forced_distinct_at p s.plan class (spot_at_value p class v) valid

-- a class is forced to a value
pub moved_forced : (p : Parts) (published : Option Timetable) (s : Snapshot) (class : ℕ) (v : Value) → IsValid p → IfSome published (IsTimetableOf p) → class < length p.classes → All (λ c. c < length p.classes) (conflict_set_of p s class v)
    → moved_in p published (forced p s class v).plan + moved_among p published s.plan (class ∷ conflict_set_of p s class v) ≡ moved_in p published s.plan + moved_among p published (forced p s class v).plan (class ∷ conflict_set_of p s class v)
moved_forced p published s class v valid belongs within all =
    moved_over p published s.plan (forced p s class v).plan (class ∷ conflict_set_of p s class v) belongs (forced_distinct p s class v valid) (All-cons (λ c. c < length p.classes) class (conflict_set_of p s class v) within all)
    (forced_others p s class v).values

-- some classes and one before them
pub among_cons : (p : Parts) (published : Option Timetable) (plan : List (Option Value)) (class : ℕ) (classes : List ℕ) → moved_among p published plan (class ∷ classes) ≡ moved_among p published plan (class ∷ []) + moved_among p published plan classes
among_cons p None plan class classes = refl
among_cons p (Some t) plan class classes = omega (arith, count_cons (is_moved p plan t) class classes, count_cons (is_moved p plan t) class [])

-- no more classes are moved than there are
pub moved_most : (p : Parts) (published : Option Timetable) (plan : List (Option Value)) → IfSome published (IsTimetableOf p) → moved_in p published plan ≤ length p.classes
moved_most p None plan belongs = omega arith
moved_most p (Some t) plan belongs = omega (arith, moved_few p plan t, belongs.classes)

-- so it is where the code forces a class, which looks for its conflict set before
pub force_change : (old found new : Contents) (published : Option Timetable) (class : ℕ) (v : Value) (count was is : ℕ) → IsValid new.problem → IfSome published (IsTimetableOf old.problem) → class < length old.problem.classes
    → with_taken found [] ≡ with_taken old [] → desk_of new ≡ stepped (desk_of found) (forced found.problem found.present class v) → new.taken ≡ conflict_set_of found.problem found.present class v → obstacle_of found.problem found.present class v ≡ None
    → (obstacle_of old.problem old.present class v ≡ None → was ≡ moved_among old.problem published old.present.plan (class ∷ conflict_set_of old.problem old.present class v))
    → is ≡ moved_among new.problem published new.present.plan (class ∷ new.taken) → All (λ c. c < length new.problem.classes) new.taken
    → count ≡ moved_in old.problem published old.present.plan → moved_in new.problem published new.present.plan + was ≡ count + is
force_change old found new published class v count was is valid belongs within same desk taken clear was_is is_is all count_is =
    let p : found.problem ≡ old.problem = ap (λ h. h.problem) same in
    let s : found.present ≡ old.present = ap (λ h. h.present) same in
    let q : new.problem ≡ old.problem = ap (λ d. d.problem) desk ∙ p in
    let now : new.present ≡ forced old.problem old.present class v = rw (← p, ← s) (ap (λ d. d.present) desk) in
    let out : new.taken ≡ conflict_set_of old.problem old.present class v = rw (← p, ← s) taken in
    let open_one : obstacle_of old.problem old.present class v ≡ None = rw (← p, ← s) clear in
    let each : All (λ c. c < length old.problem.classes) (conflict_set_of old.problem old.present class v) = rw (← out, ← q) all in
    let sound : IsValid old.problem = rw (← q) valid in
    let is_now : is ≡ moved_among old.problem published (forced old.problem old.present class v).plan (class ∷ conflict_set_of old.problem old.present class v) = rw (← out, ← now, ← q) is_is in
    rw (q, now, was_is open_one, count_is, is_now) (moved_forced old.problem published old.present class v sound belongs within each)

-- a student who is enrolled moves no class
enrolled_plan : (s now : Snapshot) (o : Option (List ℕ)) (student : ℕ) → option_map (λ list. with_list s student (classes_in_order list)) o ≡ Some now → now.plan ≡ s.plan
enrolled_plan s now None student is = absurd (cc is)
enrolled_plan s now (Some list) student is = ap (λ o. option_map_or (λ t. t.plan) o s.plan) (sym is)

pub moved_enrolled : (p q : Parts) (published : Option Timetable) (s now : Snapshot) (student count : ℕ) → q ≡ p → enrolled p s student ≡ Some now → count ≡ moved_in p published s.plan → count ≡ moved_in q published now.plan
unfolding enrolled
moved_enrolled p q published s now student count same is counted = rw (same, enrolled_plan s now (classes_found p s student) student is) counted
