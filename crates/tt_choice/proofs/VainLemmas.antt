-- Fronts from which no better choice goes on.
use Rattle.std.proofs.Common.{◌≡◌, ℕ, ◌+◌, ◌-◌, ◌<◌, ◌≤◌, Bool, true, false, List, [], ◌∷◌, ◌++◌, Option, Some, None, length, get_or, take, arith, refl, sym, ap, ◌∙◌, length-append}
use Rattle.std.specs.Prelude.{◌&&◌, nat_lt, IfSome}
use Rattle.std.specs.List.{list_all, AllByRecursion}
use Rattle.std.proofs.lemmas.Bool.{and_parts}
use Rattle.std.proofs.lemmas.Bool.Decides.{nat_tests}
use Rattle.std.proofs.lemmas.List.{take_more, take_all, take-append-le}
use Rattle.std.proofs.lemmas.List.Folds.{list_all-append}
use Rattle.tt_problem.specs.declared.parts.Span.{Span}
use Rattle.tt_choice.specs.declared.course.Found.{Found}
use Rattle.tt_choice.specs.Choices.{choices_of}
use Rattle.tt_choice.specs.Least.{Situation, has_parent_with, may_be_taken, is_allowed, pairs_added}
use Rattle.tt_choice.specs.Passed.{is_fewer, better, passed}
use Rattle.tt_choice.specs.Found.{chosen, has_fewer, IsFoundIn, IsInVain}
use Rattle.tt_choice.specs.Ahead.{pairs_across, IsAcross, IsSure}
use Rattle.tt_choice.specs.Open.{may_come, can_all_be_filled}
use Rattle.tt_choice.proofs.EachLemmas.{all_of, all_both, no-and, and-no, all_follow}
use Rattle.tt_choice.proofs.OpenLemmas.{closed-none, barred-none}
use Rattle.tt_choice.proofs.Order.{all-weaken}
use Rattle.tt_choice.proofs.PairLemmas.{pairs_added-join}
use Rattle.tt_choice.proofs.Walked.{IsHopeless}

no_less : (m n k : ℕ) → m ≤ n → nat_lt m k ≡ false → nat_lt n k ≡ false
no_less m n k le h = grind (arith, nat_tests)

-- more pairs than some that aren't fewer aren't fewer
pub no_fewer : (found : Option Found) (m n : ℕ) → m ≤ n → has_fewer found m ≡ false → has_fewer found n ≡ false
no_fewer None m n le h = h
no_fewer (Some f) m n le h = no_less m n f.pairs le h

module _ (s : Situation) (found : Option Found) (front : List ℕ) (rest : List Span) where
  none-vain : AllByRecursion (λ choice. is_allowed s (front ++ choice) ≡ false) (choices_of rest) → IsInVain s found front rest
  none-vain h = record {
    each = all-weaken (λ choice. is_allowed s (front ++ choice) ≡ false) (λ choice. is_allowed s (front ++ choice) ≡ true → has_fewer found (pairs_added s (front ++ choice)) ≡ false)
        (λ choice failed ok. let bad : true ≡ false = sym ok ∙ failed in absurd (cc bad)) (choices_of rest) h;
  }

  -- one of the subparts can't be filled
  pub closed-vain : can_all_be_filled s front rest ≡ false → IsInVain s found front rest
  closed-vain h = none-vain (closed-none s front rest h)

  -- a class of the front may not come
  pub barred-vain : (k : ℕ) → k < length front → may_come s front rest (get_or front k 0) ≡ false → IsInVain s found front rest
  barred-vain k lt h = none-vain (barred-none s front rest k lt h)

  pub seats_of : (choice : List ℕ) → is_allowed s (front ++ choice) ≡ true → list_all s.has_seat choice ≡ true
  seats_of choice h =
      let whole = front ++ choice in
      let parts = and_parts (may_be_taken s whole) (list_all (has_parent_with s whole) s.wanting) h in
      let seats = all_follow (λ c. s.has_seat c && has_parent_with s whole c) s.has_seat (λ c e. (and_parts (s.has_seat c) (has_parent_with s whole c) e).0) whole parts.0 in
      (and_parts (list_all s.has_seat front) (list_all s.has_seat choice) (sym (list_all-append s.has_seat front choice) ∙ seats)).1

  -- the pairs of the front, those inside what comes and those between both are no fewer
  pub many-vain : (ahead across total : ℕ) → IsSure s rest ahead → IsAcross s front rest across → total ≤ pairs_added s front + ahead + across → has_fewer found total ≡ false → IsInVain s found front rest
  many-vain ahead across total sure between le many = record {
    each = all_both (λ choice. list_all s.has_seat choice ≡ true → ahead ≤ pairs_added s choice) (λ choice. list_all s.has_seat choice ≡ true → across ≤ pairs_across s front choice)
        (λ choice. is_allowed s (front ++ choice) ≡ true → has_fewer found (pairs_added s (front ++ choice)) ≡ false)
        (λ choice inner outer ok.
        let seats = seats_of choice ok in
        let a : ahead ≤ pairs_added s choice = inner seats in
        let b : across ≤ pairs_across s front choice = outer seats in
        let c = pairs_added-join s front choice in
        no_fewer found total (pairs_added s (front ++ choice)) (omega arith) many)
        (choices_of rest) sure.each between.each;
  }

-- nothing is sure between both, at first
pub across-zero : (s : Situation) (front : List ℕ) (rest : List Span) → IsAcross s front rest 0
across-zero s front rest = record { each = all_of (λ choice. list_all s.has_seat choice ≡ true → 0 ≤ pairs_across s front choice) (λ choice e. omega arith) (choices_of rest) }

-- the choice found is what the pairs are compared with
pub fewer_is : (s : Situation) (best choice : List ℕ) (found : Option Found) → IfSome found (IsFoundIn s best) → is_fewer s choice (chosen best found) ≡ has_fewer found (pairs_added s choice)
fewer_is s best choice None h = refl
fewer_is s best choice (Some f) h = ap (nat_lt (pairs_added s choice)) (sym h.counted)

-- so the best so far stays
pub vain-hopeless : (s : Situation) (best : List ℕ) (found : Option Found) (front : List ℕ) (rest : List Span) → IfSome found (IsFoundIn s best) → IsInVain s found front rest
    → IsHopeless s (chosen best found) front rest
vain-hopeless s best found front rest h vain = record {
  each = all-weaken (λ choice. is_allowed s (front ++ choice) ≡ true → has_fewer found (pairs_added s (front ++ choice)) ≡ false)
      (λ choice. better s (chosen best found) (front ++ choice) ≡ chosen best found) (λ choice failed. cases choice (is_allowed s (front ++ choice)) refl failed) (choices_of rest) vain.each;
}
  where
    cases : (choice : List ℕ) (b : Bool) → is_allowed s (front ++ choice) ≡ b → (is_allowed s (front ++ choice) ≡ true → has_fewer found (pairs_added s (front ++ choice)) ≡ false)
        → better s (chosen best found) (front ++ choice) ≡ chosen best found
    cases choice true e failed =
        let many : is_fewer s (front ++ choice) (chosen best found) ≡ false = fewer_is s best (front ++ choice) found h ∙ failed e in
        rw (no-and (is_fewer s (front ++ choice) (chosen best found)) (is_allowed s (front ++ choice)) many) refl
    cases choice false e failed = rw (and-no (is_fewer s (front ++ choice) (chosen best found)) (is_allowed s (front ++ choice)) e) refl

-- a configuration that can't be filled leaves the best as it is
pub passed-closed : (s : Situation) (best : Option (List ℕ)) (subparts : List Span) → can_all_be_filled s [] subparts ≡ false → passed s best (choices_of subparts) ≡ best
passed-closed s best subparts h = stays (choices_of subparts) (closed-none s [] subparts h)
  where
    stays : (xs : List (List ℕ)) → AllByRecursion (λ choice. is_allowed s choice ≡ false) xs → passed s best xs ≡ best
    stays [] failed = refl
    stays (x ∷ xs) failed =
        let same : better s best x ≡ best = rw (and-no (is_fewer s x best) (is_allowed s x) failed.0) refl in
        ap (λ (b : Option (List ℕ)). passed s b xs) same ∙ stays xs failed.1

-- a front without its last class
pub without_last : (front : List ℕ) (n : ℕ) → take (length (front ++ n ∷ []) - 1) (front ++ n ∷ []) ≡ front
without_last front n =
    let e : length (front ++ n ∷ []) - 1 ≡ length front = omega (arith, length-append front (n ∷ [])) in
    ap (λ (k : ℕ). take k (front ++ n ∷ [])) e ∙ take-append-le (length front) front (n ∷ []) (omega arith) ∙ take_all (length front) front (omega arith)

pub with_last : (front : List ℕ) → 0 < length front → take (length front - 1) front ++ get_or front (length front - 1) 0 ∷ [] ≡ front
with_last front some =
    let e : length front - 1 + 1 ≡ length front = omega arith in
    sym (take_more front (length front - 1) 0 (omega arith)) ∙ ap (λ (k : ℕ). take k front) e ∙ take_all (length front) front (omega arith)
