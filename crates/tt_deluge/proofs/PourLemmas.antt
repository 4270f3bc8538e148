-- One round after another, and the best moment so far.
use Rattle.std.proofs.Common.{◌≡◌, ℕ, zero, suc, ◌+◌, ◌-◌, ◌<◌, ◌≤◌, Bool, true, false, cond, List, [], ◌∷◌, Option, Some, None, refl, sym, ap, ◌∙◌, arith, inl, inr, nat_lt}
use Rattle.std.specs.Prelude.{◌↔◌, ◌==◌, slice_get, if◌then◌else◌}
use Rattle.std.specs.List.{best_of}
use Rattle.std.specs.Ordering.{nat_cmp, is_lt, ordering_then}
use Rattle.std.specs.declared.cmp.Ordering.TheVariants.{Less, Equal, Greater}
use Rattle.std.proofs.lemmas.Bool.{cases_eq, ltb-true}
use Rattle.rand_core.specs.Stream.{Stream}
use Rattle.tt_base.specs.Lists.{is_less}
use Rattle.tt_problem.specs.declared.parts.Parts.{Parts}
use Rattle.tt_state.specs.Snapshots.{Snapshot}
use Rattle.tt_improve.specs.Classes.{total_of}
use Rattle.tt_improve.specs.Rounds.{Improvement, round_more}
use Rattle.tt_deluge.specs.declared.pouring.Moment.{Moment as Kept}
use Rattle.tt_deluge.specs.Deluged.{after_round, best_moment, deluged, found_by, moments_after}
use Rattle.tt_deluge.specs.Pouring.{HasFallen, IsMomentOf, IsPouring, by_total, moment_of}
use Rattle.tt_deluge.specs.Standing.{BeginsWith, StandsAs}
use Rattle.tt_deluge.specs.UnderWay.{ended_at}
use Rattle.tt_deluge.specs.Pieces.{DelugeMoment, are_none, first_moment, level_at, made_within, targets_at}
use Rattle.tt_deluge.proofs.ChangeLemmas.{stands-same}
use Rattle.tt_deluge.proofs.FrontLemmas.{front-get}

one_number : (m n : ℕ) → is_lt (ordering_then (nat_cmp m n) Equal) ≡ nat_lt m n
one_number m n = decides (nat_lt m n) (m == n)
  where
    decides : (less same : Bool) → is_lt (ordering_then (cond less Less (cond same Equal Greater)) Equal) ≡ less
    decides true same = refl
    decides false true = refl
    decides false false = refl

-- a moment comes before another by its total
lesser : (p : Parts) (a b : DelugeMoment) → is_less (by_total p) a b ≡ nat_lt (total_of p a.0.snapshot) (total_of p b.0.snapshot)
lesser p a b = one_number (total_of p a.0.snapshot) (total_of p b.0.snapshot)

-- a round that makes this change, or none
pub round-leads : (p : Parts) (first rounds i : ℕ) (s t : Snapshot) (changed level : ℕ) (random left : Stream) (made : Bool) → level ≡ level_at first rounds i (total_of p s)
    → made_within p level (found_by p s random).0 ≡ cond made (Some t) None → (made ≡ false → t ≡ s) → left ≡ (found_by p s random).1
    → after_round p first rounds (moment_of s i changed random) ≡ moment_of t (i + 1) (changed + cond made 1 0) left
round-leads p first rounds i s t changed level random left made level_is change still random_is =
    let m : Improvement = record { snapshot = s; rounds = i; changed = changed } in
    let found : Option Snapshot × Stream = found_by p s random in
    let next : Option Snapshot → Stream → DelugeMoment = λ (c : Option Snapshot) (w : Stream). (round_more m c, w) in
    ap (λ (l : ℕ). next (made_within p l found.0) found.1) (sym level_is)
    ∙ ap (λ (c : Option Snapshot). next c found.1) change
    ∙ ap (next (cond made (Some t) None)) (sym random_is)
    ∙ by made still
  where
    by : (b : Bool) → (b ≡ false → t ≡ s) → (round_more (record { snapshot = s; rounds = i; changed = changed }) (cond b (Some t) None), left) ≡ moment_of t (i + 1) (changed + cond b 1 0) left
    by true still = refl
    by false still =
        let none : changed ≡ changed + 0 = omega arith in
        ap (λ (u : Snapshot). moment_of u (i + 1) changed left) (sym (still refl)) ∙ ap (λ (n : ℕ). moment_of t (i + 1) n left) none

-- the moments from one on
pub next-moments : (p : Parts) (first rounds i : ℕ) (m next : DelugeMoment) → i < rounds → after_round p first rounds m ≡ next
    → moments_after p first rounds (rounds - i) m ≡ next ∷ moments_after p first rounds (rounds - (i + 1)) next
unfolding moments_after
next-moments p first rounds i m next below is =
    let more : rounds - i ≡ suc (rounds - (i + 1)) = omega arith in
    ap (λ (n : ℕ). moments_after p first rounds n m) more
    ∙ ap (λ (a : DelugeMoment). a ∷ moments_after p first rounds (rounds - (i + 1)) a) is

pub last-moments : (p : Parts) (first rounds i : ℕ) (m : DelugeMoment) → rounds ≤ i → moments_after p first rounds (rounds - i) m ≡ []
unfolding moments_after
last-moments p first rounds i m past =
    let none : rounds - i ≡ 0 = omega arith in
    ap (λ (n : ℕ). moments_after p first rounds n m) none

-- before the first round
pub pour-start : (p : Parts) (rounds seed first : ℕ) (s : Snapshot) (trail : List Snapshot) (random : Stream) (best : Kept) → first ≡ total_of p s → IsMomentOf p s trail best → best.changed ≡ 0 → moment_of s 0 0 random ≡ first_moment seed s
    → IsPouring p s trail (moments_after p first rounds (rounds - 0) (moment_of s 0 best.changed random)) best (best_moment p rounds seed s)
unfolding best_moment
pour-start p rounds seed first s trail random best first_is moment none begins =
    let whole : rounds - 0 ≡ rounds = omega arith in
    let at : moment_of s 0 best.changed random ≡ first_moment seed s = ap (λ (n : ℕ). moment_of s 0 n random) none ∙ begins in
    let ends : (first n : ℕ) (m : DelugeMoment) → DelugeMoment = λ (first n : ℕ) (m : DelugeMoment). best_of (is_less (by_total p)) m (moments_after p first rounds n m) in
    record {
      now = s;
      made = 0;
      random = random;
      moment = moment;
      ends = ap (λ (n : ℕ). ends n (rounds - 0) (moment_of s 0 best.changed random)) first_is
          ∙ ap (λ (n : ℕ). ends (total_of p s) n (moment_of s 0 best.changed random)) whole
          ∙ ap (ends (total_of p s) rounds) at;
      fallen = inl (none, refl);
      stands = stands-same p s;
    }

-- a later moment takes the place of the best so far, or doesn't
takes : (p : Parts) (m next : DelugeMoment) (rest : List DelugeMoment) (b : Bool) → nat_lt (total_of p next.0.snapshot) (total_of p m.0.snapshot) ≡ b
    → best_of (is_less (by_total p)) m (next ∷ rest) ≡ best_of (is_less (by_total p)) (cond b next m) rest
takes p m next rest b is = ap (λ (c : Bool). best_of (is_less (by_total p)) (cond c next m) rest) (lesser p next m ∙ is)

moved-on : (p : Parts) (s : Snapshot) (kept : Kept) (front whole : List Snapshot) → BeginsWith front whole → IsMomentOf p s front kept → IsMomentOf p s whole kept
moved-on p s kept front whole begins is = record { total = is.total; small = is.small; at = front-get front whole kept.place s begins is.at }

pour-by : (p : Parts) (s t : Snapshot) (front whole : List Snapshot) (ahead : List DelugeMoment) (best kept : Kept) (made : ℕ) (random : Stream) (end : DelugeMoment) (b : Bool)
    → (way : IsPouring p s front (moment_of t made kept.changed random ∷ ahead) best end) → nat_lt (total_of p t) (total_of p way.now) ≡ b → BeginsWith front whole → IsMomentOf p t whole kept → StandsAs p s t → (kept.changed ≡ 0 → t ≡ s)
    → IsPouring p s whole ahead (if b then kept else best) end
pour-by p s t front whole ahead best kept made random end true way less begins moment stands still = record {
  now = t;
  made = made;
  random = random;
  moment = moment;
  ends = sym (takes p (moment_of way.now way.made best.changed way.random) (moment_of t made kept.changed random) ahead true less) ∙ way.ends;
  fallen = inr (some, below);
  stands = stands;
}
  where
    low : total_of p t < total_of p way.now
    low = ltb-true (total_of p t) (total_of p way.now) less

    below : total_of p t < total_of p s
    below = elim way.fallen [ inl same ↦ omega (arith, low, ap (total_of p) same.1) | inr less ↦ omega (arith, low, less.1) ]

    some : 0 < kept.changed
    some = elim (cases_eq kept.changed 0) [ inl none ↦ absurd (omega (arith, below, ap (total_of p) (still none))) | inr any ↦ positive kept.changed any ]
      where
        positive : (n : ℕ) → (n ≡ 0 → ⊥) → 0 < n
        positive zero any = absurd (any refl)
        positive (suc n) any = omega arith
pour-by p s t front whole ahead best kept made random end false way less begins moment stands still = record {
  now = way.now;
  made = way.made;
  random = way.random;
  moment = moved-on p way.now best front whole begins way.moment;
  ends = sym (takes p (moment_of way.now way.made best.changed way.random) (moment_of t made kept.changed random) ahead false less) ∙ way.ends;
  fallen = way.fallen;
  stands = way.stands;
}

-- a round that is made
pub pour-on : (p : Parts) (s t : Snapshot) (front whole : List Snapshot) (ahead : List DelugeMoment) (best kept : Kept) (made : ℕ) (random : Stream) (end : DelugeMoment)
    → IsPouring p s front (moment_of t made kept.changed random ∷ ahead) best end → BeginsWith front whole → IsMomentOf p t whole kept → StandsAs p s t → (kept.changed ≡ 0 → t ≡ s)
    → IsPouring p s whole ahead (if nat_lt kept.total best.total then kept else best) end
pour-on p s t front whole ahead best kept made random end way begins moment stands still =
    let same : nat_lt (total_of p t) (total_of p way.now) ≡ nat_lt kept.total best.total = ap (λ (n : ℕ). nat_lt n (total_of p way.now)) (sym moment.total) ∙ ap (nat_lt kept.total) (sym way.moment.total) in
    pour-by p s t front whole ahead best kept made random end (nat_lt kept.total best.total) way same begins moment stands still

-- where the way ends
pub pour-end : (p : Parts) (s t : Snapshot) (trail : List Snapshot) (best : Kept) (end : DelugeMoment) → (way : IsPouring p s trail [] best end) → slice_get trail best.place ≡ Some t → t ≡ way.now
pour-end p s t trail best end way is = let both : Some t ≡ Some way.now = sym is ∙ way.moment.at in cc both

pub deluged-end : (p : Parts) (rounds seed : ℕ) (s t : Snapshot) (trail : List Snapshot) (best : Kept) → (way : IsPouring p s trail [] best (best_moment p rounds seed s)) → t ≡ way.now → are_none (targets_at p s) ≡ false
    → ended_at t rounds best.changed ≡ deluged p rounds seed s
unfolding deluged
deluged-end p rounds seed s t trail best way is some =
    rw some (ap (λ (u : Snapshot). ended_at u rounds best.changed) is ∙ ap (λ (m : DelugeMoment). ended_at m.0.snapshot rounds m.0.changed) way.ends)

pub deluged-none : (p : Parts) (rounds seed : ℕ) (s : Snapshot) → are_none (targets_at p s) ≡ true → ended_at s 0 0 ≡ deluged p rounds seed s
unfolding deluged
deluged-none p rounds seed s none = rw none refl

pub fallen-changed : (p : Parts) (s t : Snapshot) (changed : ℕ) → HasFallen p s t changed → (changed ≡ 0) ↔ (t ≡ s)
fallen-changed p s t changed (inl same) = (λ _. same.1, λ _. same.0)
fallen-changed p s t changed (inr less) = (λ none. absurd (omega (arith, less.0, none)), λ same. absurd (omega (arith, less.1, ap (total_of p) same)))

pub fallen-total : (p : Parts) (s t : Snapshot) (changed : ℕ) → HasFallen p s t changed → total_of p t ≤ total_of p s
fallen-total p s t changed (inl same) = omega (arith, ap (total_of p) same.1)
fallen-total p s t changed (inr less) = omega (arith, less.1)
