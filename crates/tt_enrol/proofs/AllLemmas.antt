-- All students, one after another, in one step.
use Rattle.std.proofs.Common.{◌≡◌, ◌<◌, ◌≤◌, ◌-◌, ℕ, zero, suc, add-one, ◌+◌, Bool, true, false, List, [], ◌∷◌, ◌++◌, Option, Some, None, length, arith, ap, subst, ◌∙◌}
use Rattle.std.specs.Prelude.{fold, IsSome, if◌then◌else◌}
use Rattle.std.specs.List.{range_with_len}
use Rattle.std.proofs.lemmas.List.Sums.{fold_push}
use Rattle.tt_problem.specs.declared.parts.Parts.{Parts}
use Rattle.tt_state.specs.Snapshots.{Snapshot}
use Rattle.tt_state.specs.Sound.{lacks_classes}
use Rattle.tt_enrol.specs.Enrolled.{AllEnrolled, one_student_more, with_student, enrolled, all_enrolled}
use Rattle.tt_enrol.specs.Steps.{enrolled_below}

range_next : (a n : ℕ) → range_with_len a (suc n) ≡ range_with_len a n ++ (a + n) ∷ []
range_next a zero = ap (λ (k : ℕ). k ∷ []) (omega arith)
range_next a (suc n) =
    let e : a + 1 + n ≡ a + suc n = omega arith in
    ap (λ (l : List ℕ). a ∷ l) (range_next (a + 1) n ∙ ap (λ (k : ℕ). range_with_len (a + 1) n ++ k ∷ []) e)

range_more : (n : ℕ) → range_with_len 0 (n + 1) ≡ range_with_len 0 n ++ n ∷ []
range_more n = rw add-one (range_next 0 n ∙ ap (λ (k : ℕ). range_with_len 0 n ++ k ∷ []) (omega arith))

-- one student more
pub below_more : (p : Parts) (s : Snapshot) (n : ℕ) → enrolled_below p s (n + 1) ≡ with_student p (enrolled_below p s n) n
below_more p s n =
    let start : AllEnrolled = record { snapshot = s; enrolled = 0; left = 0 } in
    ap (fold (with_student p) start) (range_more n) ∙ fold_push (with_student p) start (range_with_len 0 n) n

-- all students
pub below_all : (p : Parts) (s : Snapshot) (n : ℕ) → n ≡ length p.students → enrolled_below p s n ≡ all_enrolled p s
unfolding all_enrolled
below_all p s n e = ap (enrolled_below p s) e

-- ---- how many are enrolled

one_more : (all : AllEnrolled) (o : Option Snapshot) → all.enrolled ≤ (one_student_more all o).enrolled
one_more all None = omega arith
one_more all (Some now) = omega arith

one_if : (lacks : Bool) (all : AllEnrolled) (o : Option Snapshot) → all.enrolled ≤ (if lacks then one_student_more all o else all).enrolled
one_if true all o = one_more all o
one_if false all o = omega arith

-- they never grow fewer
below_grows : (p : Parts) (s : Snapshot) (n more : ℕ) → (enrolled_below p s n).enrolled ≤ (enrolled_below p s (n + more)).enrolled
below_grows p s n zero =
    let same : n + 0 ≡ n = omega arith in
    rw same (omega arith)
below_grows p s n (suc more) =
    let next : n + suc more ≡ n + more + 1 = omega arith in
    let all = enrolled_below p s (n + more) in
    let grows : all.enrolled ≤ (with_student p all (n + more)).enrolled = one_if (lacks_classes p all.snapshot (n + more)) all (enrolled p all.snapshot (n + more)) in
    rw (next, below_more p s (n + more)) (omega (arith, below_grows p s n more, grows))

gets_one : (lacks : Bool) (all : AllEnrolled) (o : Option Snapshot) → lacks ≡ true → IsSome o → 0 < (if lacks then one_student_more all o else all).enrolled
gets_one true all None is some = absurd (cc some)
gets_one true all (Some now) is some = omega arith
gets_one false all o is some = absurd (cc is)

-- where a student gets an enrolment when it is his turn, some do
pub some_get : (p : Parts) (s now : Snapshot) (n : ℕ) → now ≡ (enrolled_below p s n).snapshot → n < length p.students → lacks_classes p now n ≡ true → IsSome (enrolled p now n) → 0 < (all_enrolled p s).enrolled
some_get p s now n at below lacks some =
    let all = enrolled_below p s n in
    let one : 0 < (with_student p all n).enrolled = gets_one (lacks_classes p all.snapshot n) all (enrolled p all.snapshot n) (rw at at lacks) (rw at at some) in
    let later : 0 < (enrolled_below p s (n + 1)).enrolled = rw (below_more p s n) one in
    let more = length p.students - (n + 1) in
    let whole : n + 1 + more ≡ length p.students = omega (arith, below) in
    let grown = below_grows p s (n + 1) more in
    subst (λ (a : AllEnrolled). 0 < a.enrolled) (below_all p s (n + 1 + more) whole) (omega (arith, later, grown))
