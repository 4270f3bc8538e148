-- Where no class of a list that passes a test is related to another class of the list, those that pass add no pair to the others.
use Rattle.std.proofs.Common.{◌≡◌, ℕ, ◌+◌, ◌<◌, Bool, true, false, cond, List, [], ◌∷◌, Option, None, length, get_or, count_by, sum_by, refl, ap, sym, ◌∙◌, arith}
use Rattle.std.specs.Prelude.{not, ◌&&◌, ◌==◌}
use Rattle.std.specs.List.{AllByRecursion, filter, list_any}
use Rattle.std.proofs.Math.Bool.{and-false}
use Rattle.std.proofs.lemmas.Bool.{eqb-true, ne_eqb}
use Rattle.std.proofs.lemmas.List.Sums.{sum_by-cons}
use Rattle.tt_base.specs.Among.{pairs_among}
use Rattle.tt_bits.specs.declared.times.Spot.{Spot}
use Rattle.tt_bits.specs.Spots.{spot_at}
use Rattle.tt_problem.specs.declared.parts.Parts.{Parts}
use Rattle.tt_plan.specs.Domain.{spots_of}
use Rattle.tt_roster.specs.Conflicts.{in_conflict}
use Rattle.tt_roster.specs.Lists.{Ascends}
use Rattle.tt_state.specs.Snapshots.{Snapshot, list_in}
use Rattle.tt_state.specs.Sound.{IsSound}
use Rattle.tt_choice.specs.Least.{pairs_added}
use Rattle.tt_choice.proofs.Order.{all-weaken}
use Rattle.tt_improve.specs.Courses.{beside, is_of_course, own_of, rest_of}
use Rattle.tt_improve.specs.Pairs.{has_pair, meets_another}
use Rattle.tt_improve.proofs.HardLemmas.{none_of}

-- a test that no item passes
pub none_passes : {X : Type 0} (f : X → Bool) → ((x : X) → f x ≡ false) → (xs : List X) → list_any f xs ≡ false
none_passes f fails [] = refl
none_passes f fails (x ∷ xs) = rw (fails x) (none_passes f fails xs)

both_fail : (a b : Bool) → (a && b) ≡ false → a ≡ true → b ≡ false
both_fail true b e is = e
both_fail false b e is = absurd (cc is)

-- what is kept of a list is not counted, where none of it is
none_kept : (g q : ℕ → Bool) (xs : List ℕ) → AllByRecursion (λ c. q c ≡ true → g c ≡ false) xs → count_by g (filter q xs) ≡ 0
none_kept g q [] all = refl
none_kept g q (x ∷ xs) all = by (q x) all.0 (none_kept g q xs all.1)
  where
    by : (b : Bool) → (b ≡ true → g x ≡ false) → count_by g (filter q xs) ≡ 0 → count_by g (cond b (x ∷ filter q xs) (filter q xs)) ≡ 0
    by false fails rest = rest
    by true fails rest = let first = ap {B = ℕ} (λ (b : Bool). cond b 1 0) (fails refl) in omega (arith, first, rest, sum_by-cons (λ (c : ℕ). cond (g c) 1 0) x (filter q xs))

module _ (f : ℕ → ℕ → Bool) (test : ℕ → Bool) where
  -- a class that passes is related to no other class of the list
  abbrev IsApart : List ℕ → ℕ → Type 0
  IsApart list c = test c ≡ true → AllByRecursion (λ d. (d == c) ≡ false → f c d ≡ false) list

  apart_all : (list : List ℕ) → list_any (λ c. test c && list_any (λ d. not (d == c) && f c d) list) list ≡ false → AllByRecursion (IsApart list) list
  apart_all list none =
      all-weaken (λ c. (test c && list_any (λ d. not (d == c) && f c d) list) ≡ false) (IsApart list) one list (none_of (λ c. test c && list_any (λ d. not (d == c) && f c d) list) list none)
    where
      one : (c : ℕ) → (test c && list_any (λ d. not (d == c) && f c d) list) ≡ false → IsApart list c
      one c e passes =
          let fails = both_fail (test c) (list_any (λ d. not (d == c) && f c d) list) e passes in
          all-weaken (λ d. (not (d == c) && f c d) ≡ false) (λ d. (d == c) ≡ false → f c d ≡ false) (λ d h other. both_fail (not (d == c)) (f c d) h (ap not other)) list
          (none_of (λ d. not (d == c) && f c d) list fails)

  -- those that pass, with those that don't
  none_across : (list xs : List ℕ) → AllByRecursion (IsApart list) xs → sum_by (λ c. count_by (f c) (filter (λ d. not (test d)) list)) (filter test xs) ≡ 0
  none_across list [] all = refl
  none_across list (x ∷ xs) all = by (test x) refl (none_across list xs all.1)
    where
      differs : (d : ℕ) (same : Bool) → (d == x) ≡ same → test x ≡ true → not (test d) ≡ true → same ≡ false
      differs d false e mine other = refl
      differs d true e mine other = let is : d ≡ x = eqb-true d x e in absurd (cc (is, mine, other))

      by : (b : Bool) → test x ≡ b → sum_by (λ c. count_by (f c) (filter (λ d. not (test d)) list)) (filter test xs) ≡ 0
          → sum_by (λ c. count_by (f c) (filter (λ d. not (test d)) list)) (cond b (x ∷ filter test xs) (filter test xs)) ≡ 0
      by false e rest = rest
      by true e rest =
          let here = none_kept (f x) (λ d. not (test d)) list
          (all-weaken (λ d. (d == x) ≡ false → f x d ≡ false) (λ d. not (test d) ≡ true → f x d ≡ false) (λ d h other. h (differs d (d == x) refl e other)) list (all.0 e)) in
          omega (arith, here, rest, sum_by-cons (λ c. count_by (f c) (filter (λ d. not (test d)) list)) x (filter test xs))

  later_fails : (x from after : ℕ) (xs : List ℕ) → x < from → Ascends from after xs → AllByRecursion (λ d. (d == x) ≡ false → f x d ≡ false) xs → AllByRecursion (λ d. test d ≡ true → f x d ≡ false) xs
  later_fails x from after [] below up all = tt
  later_fails x from after (d ∷ xs) below up all =
      let above : x < d = omega (arith, up.0) in
      ((λ passes. all.0 (ne_eqb d x (λ e. omega (arith, e, above)))), later_fails x (d + 1) after xs (omega arith) up.2 all.1)

  -- and those that pass, among each other
  none_among : (from after : ℕ) (xs : List ℕ) → Ascends from after xs → AllByRecursion (IsApart xs) xs → pairs_among f (filter test xs) ≡ 0
  none_among from after [] up all = refl
  none_among from after (x ∷ xs) up all =
      by (test x) refl (none_among (x + 1) after xs up.2 (all-weaken (IsApart (x ∷ xs)) (IsApart xs) (λ c h passes. (h passes).1) xs all.1))
    where
      by : (b : Bool) → test x ≡ b → pairs_among f (filter test xs) ≡ 0 → pairs_among f (cond b (x ∷ filter test xs) (filter test xs)) ≡ 0
      by false e rest = rest
      by true e rest =
          let here = none_kept (f x) test xs (later_fails x (x + 1) after xs (omega arith) up.2 (all.0 e).1) in
          omega (arith, here, rest)

-- where no class of the course conflicts with another class of a student's list, the own classes of the course add no pair
pub no_pair : (p : Parts) (s : Snapshot) (student course : ℕ) → IsSound p s → student < length p.students → has_pair p s course (list_in s student) ≡ false
    → pairs_added (beside p s student (rest_of p course (list_in s student))) (own_of p course (list_in s student)) ≡ 0
no_pair p s student course sound within none =
    let f = in_conflict p.travel (spots_of p s.plan) in
    let list = list_in s student in
    let apart = apart_all f (is_of_course p course) list none in
    omega (arith, none_across f (is_of_course p course) list list apart, none_among f (is_of_course p course) 0 (length p.classes) list (sound.lists.ordered student [] (omega (arith, within, sound.lists.whole))) apart)

-- a class that isn't placed conflicts with none
pub meets_none : (p : Parts) (s : Snapshot) (list : List ℕ) (class : ℕ) → spot_at (spots_of p s.plan) class ≡ None → meets_another p s list class ≡ false
meets_none p s list class is = none_passes (λ other. not (other == class) && in_conflict p.travel (spots_of p s.plan) class other) fails list
  where
    fails : (other : ℕ) → (not (other == class) && in_conflict p.travel (spots_of p s.plan) class other) ≡ false
    fails other = rw is (and-false (not (other == class)))

-- the same, where the spots are named
pub meets_none_at : (p : Parts) (s : Snapshot) (list : List ℕ) (class : ℕ) (spots : List (Option Spot)) (o : Option Spot) → spots ≡ spots_of p s.plan → o ≡ get_or spots class o → o ≡ None → false ≡ meets_another p s list class
meets_none_at p s list class spots o are at none =
    let here : None ≡ get_or spots class None = rw none at at in
    sym (meets_none p s list class (ap (λ (l : List (Option Spot)). spot_at l class) (sym are) ∙ sym here))
