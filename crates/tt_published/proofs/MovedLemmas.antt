-- How many published classes are moved, once a class gets another value.
use Rattle.std.proofs.Common.{◌≡◌, ◌≢◌, ℕ, zero, suc, ◌+◌, ◌<◌, ◌≤◌, Bool, true, false, Option, None, List, length, refl, ap, sym, ◌∙◌, ◌⊎◌, inl, inr, cond, arith}
use Rattle.std.specs.Prelude.{count_by, nat_eq, not, ◌&&◌, slice_index_or, slice_set}
use Rattle.std.specs.List.{range_with_len}
use Rattle.std.proofs.lemmas.Bool.Decides.{eqb_tells}
use Rattle.std.proofs.lemmas.List.{get_or-set_same, get_or-set_other}
use Rattle.std.proofs.lemmas.List.FromFn.{length-range_with_len}
use Rattle.std.proofs.lemmas.List.Sums.{count_by-le-length, sum_by-cons}
use Rattle.tt_bits.specs.declared.times.Value.{Value}
use Rattle.tt_problem.specs.declared.parts.Parts.{Parts}
use Rattle.tt_published.specs.Timetable.{Timetable, has_published}
use Rattle.tt_published.specs.Published.{is_moved, keeps, moved_of}

-- 1 for what holds, else 0
abbrev flag : Bool → ℕ
flag b = cond b 1 0

count_cons : (f : ℕ → Bool) (a n : ℕ) → count_by f (range_with_len a (suc n)) ≡ flag (f a) + count_by f (range_with_len (a + 1) n)
count_cons f a n = sum_by-cons (λ k. flag (f k)) a (range_with_len (a + 1) n)

-- two tests that agree from a number on
count_same : (f g : ℕ → Bool) (a n : ℕ) → ((k : ℕ) → a ≤ k → f k ≡ g k) → count_by f (range_with_len a n) ≡ count_by g (range_with_len a n)
count_same f g a zero same = refl
count_same f g a (suc n) same =
    count_cons f a n
    ∙ ap (λ b. flag b + count_by f (range_with_len (a + 1) n)) (same a (omega arith))
    ∙ ap (λ m. flag (g a) + m) (count_same f g (a + 1) n (λ k above. same k (omega arith)))
    ∙ sym (count_cons g a n)

-- two tests that agree but at one number of a range
count_changed : (f g : ℕ → Bool) (c a n : ℕ) → a ≤ c → c < a + n → ((k : ℕ) → k ≢ c → f k ≡ g k)
    → count_by f (range_with_len a n) + flag (g c) ≡ count_by g (range_with_len a n) + flag (f c)
count_changed f g c a zero from below same = absurd (omega arith)
count_changed f g c a (suc n) from below same = by (eqb_tells a c) (count_changed f g c (a + 1) n)
  where
    by : ((nat_eq a c ≡ true) × (a ≡ c)) ⊎ ((nat_eq a c ≡ false) × (a ≢ c))
        → (a + 1 ≤ c → c < a + 1 + n → ((k : ℕ) → k ≢ c → f k ≡ g k) → count_by f (range_with_len (a + 1) n) + flag (g c) ≡ count_by g (range_with_len (a + 1) n) + flag (f c))
        → count_by f (range_with_len a (suc n)) + flag (g c) ≡ count_by g (range_with_len a (suc n)) + flag (f c)
    by (inl here) rest =
        let at : a ≡ c = here.1 in
        let later = count_same f g (a + 1) n (λ k above. same k (λ e. absurd (omega (arith, e, at, above)))) in
        let at_f : flag (f a) ≡ flag (f c) = ap (λ k. flag (f k)) at in
        let at_g : flag (g a) ≡ flag (g c) = ap (λ k. flag (g k)) at in
        omega (arith, count_cons f a n, count_cons g a n, later, at_f, at_g)
    by (inr other) rest =
        let differ : a ≢ c = other.1 in
        let later = rest (omega (arith, from, differ)) (omega (arith, below)) same in
        let at_a : flag (f a) ≡ flag (g a) = ap flag (same a differ) in
        omega (arith, count_cons f a n, count_cons g a n, later, at_a)

-- two plans in which a class has the same value or none agree on whether it is moved
pub moved_same : (p : Parts) (plan plan' : List (Option Value)) (t : Timetable) (class : ℕ) → slice_index_or plan class None ≡ slice_index_or plan' class None → is_moved p plan t class ≡ is_moved p plan' t class
unfolding is_moved
moved_same p plan plan' t class same = ap (λ v. has_published t class && not (keeps p t class v)) same

-- with a class at another value or none, one is counted less where it was moved, and one more where it is moved then
pub moved_changed : (p : Parts) (plan : List (Option Value)) (t : Timetable) (class : ℕ) (v : Option Value) → class < length t.classes
    → moved_of p (slice_set plan class v) t + cond (is_moved p plan t class) 1 0 ≡ moved_of p plan t + cond (is_moved p (slice_set plan class v) t class) 1 0
moved_changed p plan t class v within =
    count_changed (is_moved p (slice_set plan class v) t) (is_moved p plan t) class 0 (length t.classes) (omega arith) (omega arith) (λ k other. moved_same p (slice_set plan class v) plan t k (get_or-set_other plan class k v None other))

-- the class itself is moved then where it is published and doesn't meet as published
pub moved_at : (p : Parts) (plan : List (Option Value)) (t : Timetable) (class : ℕ) (v : Option Value) → class < length plan
    → is_moved p (slice_set plan class v) t class ≡ (has_published t class && not (keeps p t class v))
unfolding is_moved
moved_at p plan t class v within = ap (λ w. has_published t class && not (keeps p t class w)) (get_or-set_same plan class v None within)

-- no more classes are moved than there are
pub moved_few : (p : Parts) (plan : List (Option Value)) (t : Timetable) → moved_of p plan t ≤ length t.classes
moved_few p plan t = omega (arith, count_by-le-length (is_moved p plan t) (range_with_len 0 (length t.classes)), length-range_with_len 0 (length t.classes))
