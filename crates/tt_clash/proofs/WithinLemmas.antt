-- What is found where the walk ends early, once more than a number are listed.
use Rattle.std.proofs.Common.{◌≡◌, ℕ, ◌<◌, ◌≤◌, zero, suc, Bool, true, false, ◌&&◌, ◌||◌, List, [], ◌∷◌, Option, Some, None, length, take, drop, filter, fold, refl, ap, sym, ◌∙◌, arith, inl, inr}
use Rattle.std.specs.Prelude.{◌==◌}
use Rattle.std.specs.List.{list_any, range_with_len}
use Rattle.std.specs.Option.{option_map_or}
use Rattle.std.proofs.lemmas.List.{length-append, append-nil, drop_all}
use Rattle.std.proofs.lemmas.List.Elements.{filter_agree}
use Rattle.std.proofs.lemmas.Bool.{cases_Bool}
use Rattle.tt_bits.specs.declared.times.Spot.{Spot}
use Rattle.tt_problem.specs.declared.parts.RulePlace.{RulePlace}
use Rattle.tt_clash.specs.Placings.{Placing}
use Rattle.tt_clash.specs.ConflictSet.{breaks_rule, can_go, shortest_front, with_rule}
use Rattle.tt_base.specs.Lists.{is_listed}
use Rattle.tt_clash.specs.Listings.{ListedClasses, AreInOrder}
use Rattle.tt_clash.specs.Found.{AreListedWithin, IsFoundWithin}
use Rattle.tt_occupancy.specs.Clashes.{clash}
use Rattle.tt_clash.proofs.PairMarkLemmas.{clashes_below}
use Rattle.tt_clash.proofs.FrontLemmas.{front_from}
use Rattle.tt_clash.proofs.WalkLemmas.{walk-stops}
use Rattle.tt_clash.proofs.FreedLemmas.{grows}

-- the list is found whole
pub found-whole : (most : ℕ) (list found : List ℕ) → found ≡ list → IsFoundWithin most list found
found-whole most list found is = record { all = λ within. is; longer = λ more. rw is at more }

-- more are listed, and the list is longer
pub found-longer : (most : ℕ) (list found : List ℕ) → most < length found → most < length list → IsFoundWithin most list found
found-longer most list found more long = record {
  all = λ within. absurd (omega (arith, within, more));
  longer = λ again. long;
}

-- no more pass a test than another that lets them all pass
filter-fewer : (p q : ℕ → Bool) (xs : List ℕ) → ((d : ℕ) → p d ≡ true → q d ≡ true) → length (filter p xs) ≤ length (filter q xs)
filter-fewer p q [] each = omega arith
filter-fewer p q (x ∷ xs) each =
    let rest = filter-fewer p q xs each in
    elim (cases_Bool (p x)) [
      | inl passes ↦ let too : q x ≡ true = each x passes in rw (passes, too) (omega (arith, rest))
      | inr fails ↦ elim (cases_Bool (q x)) [ inl other ↦ rw (fails, other) (omega (arith, rest)) | inr both ↦ rw (fails, both) rest ]
    ]

-- the listed classes in order are those that pass
pub listed-found : (most : ℕ) (test : ℕ → Bool) (l : ListedClasses) (n : ℕ) → AreListedWithin most test l.list → AreInOrder l → l.classes ≡ n → IsFoundWithin most (filter test (range_with_len 0 n)) l.list
listed-found most test l n listed order many =
    let fewer = filter-fewer (λ d. is_listed d l.list) test (range_with_len 0 l.classes) listed.pass in
    rw (← many) (record {
      all = λ within. order ∙ filter_agree (λ d. is_listed d l.list) test (listed.all within) (range_with_len 0 l.classes);
      longer = λ more. omega (arith, more, fewer, ap length order);
    })

-- who breaks a rule of the first ones breaks one of all
any-front : {A : Type 0} (f : A → Bool) (xs : List A) (i : ℕ) → list_any f (take i xs) ≡ true → list_any f xs ≡ true
any-front f [] zero h = h
any-front f [] (suc i) h = h
any-front f (x ∷ xs) zero h = absurd (cc h)
any-front f (x ∷ xs) (suc i) h =
    elim (cases_Bool (f x)) [
      | inl first ↦ rw first refl
      | inr other ↦ let rest = rw other at h in rw other (any-front f xs i rest)
    ]

either-more : (a b e : Bool) → (b ≡ true → e ≡ true) → (a || b) ≡ true → (a || e) ≡ true
either-more true b e more h = refl
either-more false b e more h = more h

passes-more : (a : Bool) (o : Option Spot) (f g : Spot → Bool) → ((y : Spot) → f y ≡ true → g y ≡ true) → (a && option_map_or f o false) ≡ true → (a && option_map_or g o false) ≡ true
passes-more true None f g each h = h
passes-more true (Some y) f g each h = each y h
passes-more false o f g each h = h

pub below-clashes : (s : Placing) (rules : List RulePlace) (i d : ℕ) → clashes_below s (take i rules) d ≡ true → clashes_below s rules d ≡ true
below-clashes s rules i d h = passes-more _ _ _ _ (λ y some. either-more (clash s.spot y) _ _ (any-front (breaks_rule s d y) rules i) some) h

-- rule after rule the list never gets shorter
pub fold-longer : (amounts : ℕ → List (Option Spot) → ℕ) (s : Placing) (start : List ℕ) (rules : List RulePlace) (i : ℕ)
    → length (fold (with_rule amounts s) start (take i rules)) ≤ length (fold (with_rule amounts s) start rules)
fold-longer amounts s start [] zero = omega arith
fold-longer amounts s start [] (suc i) = omega arith
fold-longer amounts s start (r ∷ rules) zero =
    let rest = grows amounts s start (r ∷ rules) in
    omega (arith, ap length rest.1, length-append start rest.0)
fold-longer amounts s start (r ∷ rules) (suc i) = fold-longer amounts s (with_rule amounts s start r) rules i

-- a walk that ends where more are listed
pub front-over : (most : ℕ) (amount : List ℕ → ℕ) (s : Placing) (q : ℕ) (out members whole : List ℕ) → front_from amount s out q members ≡ whole → most < length out → IsFoundWithin most whole out
front-over most amount s q out members whole front more =
    let long = length-append out (shortest_front amount out (filter (can_go s out) (drop q members))) in
    found-longer most whole out more (omega (arith, ap length front, long, more))

-- one that ends where the amount is 0
pub front-stops : (most : ℕ) (amount : List ℕ → ℕ) (s : Placing) (q : ℕ) (out members whole : List ℕ) → front_from amount s out q members ≡ whole → (amount out == 0) ≡ true → IsFoundWithin most whole out
front-stops most amount s q out members whole front none = found-whole most whole out (walk-stops amount s q out members whole front none)

-- one that ends where no member is left
pub front-ends : (most : ℕ) (amount : List ℕ → ℕ) (s : Placing) (q : ℕ) (out members whole : List ℕ) → front_from amount s out q members ≡ whole → length members ≤ q → IsFoundWithin most whole out
front-ends most amount s q out members whole front up =
    let none = drop_all q members up in
    found-whole most whole out (sym (append-nil out) ∙ rw none at front)

-- exactly those that pass are listed
pub listed-all : (most : ℕ) (test : ℕ → Bool) (list : List ℕ) → ((d : ℕ) → is_listed d list ≡ test d) → AreListedWithin most test list
listed-all most test list each = record { pass = λ d on. sym (each d) ∙ on; all = λ within. each }

-- more are listed than are asked for, and they pass
pub listed-over : (most : ℕ) (test : ℕ → Bool) (list : List ℕ) → most < length list → ((d : ℕ) → is_listed d list ≡ true → test d ≡ true) → AreListedWithin most test list
listed-over most test list more pass = record { pass = pass; all = λ within. absurd (omega (arith, within, more)) }
