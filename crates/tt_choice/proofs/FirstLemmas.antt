-- The first of the allowed choices that add the fewest pairs is what a walk over all choices finds.
use Rattle.std.proofs.Common.{◌≡◌, ℕ, suc, zero, ◌+◌, ◌-◌, ◌<◌, ◌≤◌, Bool, true, false, cond, List, [], ◌∷◌, ◌++◌, Option, Some, map, arith, refl, ap, ◌∙◌, ◌⊎◌, inl, inr, subst}
use Rattle.std.specs.Prelude.{◌&&◌}
use Rattle.std.specs.List.{range_with_len, AllByRecursion}
use Rattle.std.proofs.lemmas.Bool.{cases_lt}
use Rattle.std.proofs.lemmas.Bool.Decides.{nat_tests}
use Rattle.tt_base.specs.Lists.{comes_before}
use Rattle.tt_problem.specs.declared.parts.Span.{Span}
use Rattle.tt_least.specs.Choices.{IsChoice}
use Rattle.tt_choice.specs.Choices.{choices_of}
use Rattle.tt_choice.specs.Pieces.{each_before}
use Rattle.tt_choice.specs.Least.{Situation, is_allowed, pairs_added}
use Rattle.tt_choice.specs.Passed.{is_fewer, better, passed}
use Rattle.tt_choice.specs.Searched.{IsFirstFewest}
use Rattle.tt_choice.proofs.EachLemmas.{before-each, no-and, and-no}
use Rattle.tt_choice.proofs.Order.{IsAscending, ascending-choices}

-- the choice is one of the list
abbrev IsAmong : List ℕ → List (List ℕ) → Type 0
IsAmong w [] = ⊥
IsAmong w (x ∷ xs) = (x ≡ w) ⊎ IsAmong w xs

among-front : (w : List ℕ) (xs ys : List (List ℕ)) → IsAmong w xs → IsAmong w (xs ++ ys)
among-front w [] ys h = absurd h
among-front w (x ∷ xs) ys (inl e) = inl e
among-front w (x ∷ xs) ys (inr h) = inr (among-front w xs ys h)

among-back : (w : List ℕ) (xs ys : List (List ℕ)) → IsAmong w ys → IsAmong w (xs ++ ys)
among-back w [] ys h = h
among-back w (x ∷ xs) ys h = inr (among-back w xs ys h)

among-map : (c : ℕ) (w : List ℕ) (xs : List (List ℕ)) → IsAmong w xs → IsAmong (c ∷ w) (map (λ choice. c ∷ choice) xs)
among-map c w [] h = absurd h
among-map c w (x ∷ xs) (inl e) = inl (ap (λ (choice : List ℕ). c ∷ choice) e)
among-map c w (x ∷ xs) (inr h) = inr (among-map c w xs h)

first_or_later : (c n : ℕ) → n ≤ c → (n ≡ c) ⊎ (n + 1 ≤ c)
first_or_later c n le = elim (cases_lt n c) [ inl lt ↦ inr (omega arith) | inr ge ↦ inl (omega arith) ]

among-each : (c n k : ℕ) (w : List ℕ) (xs : List (List ℕ)) → n ≤ c → c < n + k → IsAmong w xs → IsAmong (c ∷ w) (each_before (range_with_len n k) xs)
among-each c n zero w xs le lt h = absurd (omega arith)
among-each c n (suc k) w xs le lt h = here (first_or_later c n le) (λ more. among-each c (n + 1) k w xs more (omega arith) h)
  where
    here : (n ≡ c) ⊎ (n + 1 ≤ c) → (n + 1 ≤ c → IsAmong (c ∷ w) (each_before (range_with_len (n + 1) k) xs)) → IsAmong (c ∷ w) (map (λ choice. n ∷ choice) xs ++ each_before (range_with_len (n + 1) k) xs)
    here (inl e) later = among-front (c ∷ w) (map (λ choice. n ∷ choice) xs) (each_before (range_with_len (n + 1) k) xs) (subst (λ (m : ℕ). IsAmong (m ∷ w) (map (λ choice. n ∷ choice) xs)) e (among-map n w xs h))
    here (inr more) later = among-back (c ∷ w) (map (λ choice. n ∷ choice) xs) (each_before (range_with_len (n + 1) k) xs) (later more)

-- a choice of the subparts is among their choices
among-choices : (subparts : List Span) (choice : List ℕ) → IsChoice subparts choice → IsAmong choice (choices_of subparts)
among-choices [] [] h = inl refl
among-choices [] (c ∷ choice) h = absurd h
among-choices (s ∷ subparts) [] h = absurd h
among-choices (s ∷ subparts) (c ∷ choice) h =
    among-each c s.first (s.after - s.first) choice (choices_of subparts) h.0 (omega (arith, h.0, h.1)) (among-choices subparts choice h.2)

-- what each choice of the subparts has, each of their choices has
pub all-choices : (P : List ℕ → Type 0) (subparts : List Span) → ((choice : List ℕ) → IsChoice subparts choice → P choice) → AllByRecursion P (choices_of subparts)
all-choices P [] h = (h [] tt, tt)
all-choices P (s ∷ subparts) h =
    before-each P (λ c choice. P (c ∷ choice)) (choices_of subparts) s.first (s.after - s.first) (λ c le lt choice q. q)
    (λ c le lt. all-choices (λ choice. P (c ∷ choice)) subparts (λ choice is. h (c ∷ choice) (le, omega (arith, le, lt), is)))

-- where no allowed choice adds fewer pairs, what was found stays
pub passed-none : (s : Situation) (best : Option (List ℕ)) (xs : List (List ℕ)) → AllByRecursion (λ x. is_allowed s x ≡ true → is_fewer s x best ≡ false) xs → passed s best xs ≡ best
passed-none s best [] h = refl
passed-none s best (x ∷ xs) h = ap (λ (b : Option (List ℕ)). passed s b xs) (same (is_allowed s x) refl) ∙ passed-none s best xs h.1
  where
    same : (b : Bool) → is_allowed s x ≡ b → better s best x ≡ best
    same true e = rw (no-and (is_fewer s x best) (is_allowed s x) (h.0 e)) refl
    same false e = rw (and-no (is_fewer s x best) (is_allowed s x) e) refl

-- an allowed choice has no fewer pairs, and where it has as many it comes no earlier
abbrev IsNoBetter : Situation → List ℕ → List ℕ → Type 0
IsNoBetter s w x = is_allowed s x ≡ true → (pairs_added s w ≤ pairs_added s x) × (pairs_added s x ≤ pairs_added s w → comes_before x w ≡ false)

before-among : (x w : List ℕ) (xs : List (List ℕ)) → AllByRecursion (λ y. comes_before x y ≡ true) xs → IsAmong w xs → comes_before x w ≡ true
before-among x w [] up h = absurd h
before-among x w (y ∷ xs) up (inl e) = rw e at up.0
before-among x w (y ∷ xs) up (inr h) = before-among x w xs up.1 h

no-fewer-than : (s : Situation) (w x : List ℕ) → pairs_added s w ≤ pairs_added s x → is_fewer s x (Some w) ≡ false
no-fewer-than s w x le = grind (arith, nat_tests)

fewer-than : (s : Situation) (w x : List ℕ) → pairs_added s w < pairs_added s x → is_fewer s w (Some x) ≡ true
fewer-than s w x lt = grind (arith, nat_tests)

all-no-fewer : (s : Situation) (w : List ℕ) (xs : List (List ℕ)) → AllByRecursion (IsNoBetter s w) xs → AllByRecursion (λ x. is_allowed s x ≡ true → is_fewer s x (Some w) ≡ false) xs
all-no-fewer s w [] h = tt
all-no-fewer s w (x ∷ xs) h = ((λ ok. no-fewer-than s w x (h.0 ok).0), all-no-fewer s w xs h.1)

first-found : (s : Situation) (w : List ℕ) (best : Option (List ℕ)) (xs : List (List ℕ)) → is_allowed s w ≡ true → is_fewer s w best ≡ true → IsAscending xs → IsAmong w xs
    → AllByRecursion (IsNoBetter s w) xs → passed s best xs ≡ Some w
first-found s w best [] ok few up among all = absurd among
first-found s w best (x ∷ xs) ok few up (inl e) all =
    let taken : better s best x ≡ Some w = rw (e, few, ok) refl in
    ap (λ (b : Option (List ℕ)). passed s b xs) taken ∙ passed-none s (Some w) xs (all-no-fewer s w xs all.1)
first-found s w best (x ∷ xs) ok few up (inr later) all = first-found s w (better s best x) xs ok still up.1 later all.1
  where
    earlier : comes_before x w ≡ true
    earlier = before-among x w xs up.0 later

    more : is_allowed s x ≡ true → pairs_added s w < pairs_added s x
    more e = least (λ le. absurd (both (comes_before x w) earlier ((all.0 e).1 le)))
      where
        both : (b : Bool) → b ≡ true → b ≡ false → ⊥
        both true e h = absurd (cc h)
        both false e h = absurd (cc e)

        least : (pairs_added s x ≤ pairs_added s w → ⊥) → pairs_added s w < pairs_added s x
        least never = omega (arith, never)

    taken : (fewer allowed : Bool) → is_allowed s x ≡ allowed → is_fewer s w (cond (fewer && allowed) (Some x) best) ≡ true
    taken true true e = fewer-than s w x (more e)
    taken true false e = few
    taken false allowed e = few

    still : is_fewer s w (better s best x) ≡ true
    still = taken (is_fewer s x best) (is_allowed s x) refl

-- the first of those that add the fewest pairs is found, where it adds fewer than what was found
pub passed-first : (s : Situation) (best : Option (List ℕ)) (subparts : List Span) (w : List ℕ) → IsFirstFewest s subparts w → is_fewer s w best ≡ true → passed s best (choices_of subparts) ≡ Some w
passed-first s best subparts w h few =
    first-found s w best (choices_of subparts) h.allowed few (ascending-choices subparts) (among-choices subparts w h.one_of_each)
    (all-choices (IsNoBetter s w) subparts (λ choice is ok. (h.fewest choice is ok, h.first choice is ok)))
