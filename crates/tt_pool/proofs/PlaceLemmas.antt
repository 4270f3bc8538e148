-- The places of the elements that pass a test, while elements change.
use Rattle.std.proofs.Common.{◌≡◌, ◌∙◌, ℕ, ◌+◌, ◌<◌, Bool, true, false, cond, List, [], ◌∷◌, length, count_by, sum_by, refl, sym, ap, zero, suc, inl, inr, arith}
use Rattle.std.specs.Prelude.{slice_set, slice_index_or, nat_eq, nat_lt, ◌==◌, All}
use Rattle.std.specs.List.{insert, remove, position_or_len, list_any}
use Rattle.std.proofs.lemmas.Bool.{cases_Bool, eq-eqb, ne_eqb, lt-ltb, le-ltb}
use Rattle.std.proofs.lemmas.List.Sums.{sum_by-cons}
use Rattle.std.proofs.lemmas.List.Elements.{All-cons, All-nil}
use Rattle.tt_pool.specs.Places.{places_where}

-- all places are at `from` or behind it
none_above : {A : Type 0} (f : A → Bool) (k from : ℕ) (xs : List A) → k < from → position_or_len (nat_lt k) (places_where f from xs) ≡ 0
none_above f k from [] lt = refl
none_above f k from (x ∷ xs) lt = elim (cases_Bool (f x)) [
  | inl passes ↦ rw (passes, lt-ltb k from lt) refl
  | inr fails ↦ rw fails (none_above f k (from + 1) xs (omega arith))
]

-- the first element is passed over
pub insert_behind : (p : ℕ → Bool) (a x : ℕ) (xs : List ℕ) → p a ≡ false → insert (a ∷ xs) (position_or_len p (a ∷ xs)) x ≡ a ∷ insert xs (position_or_len p xs) x
insert_behind p a x xs fails = let at : position_or_len p (a ∷ xs) ≡ suc (position_or_len p xs) = rw fails (omega arith) in rw at refl

remove_behind : (p : ℕ → Bool) (a : ℕ) (xs : List ℕ) → p a ≡ false → remove (a ∷ xs) (position_or_len p (a ∷ xs)) ≡ a ∷ remove xs (position_or_len p xs)
remove_behind p a xs fails = let at : position_or_len p (a ∷ xs) ≡ suc (position_or_len p xs) = rw fails (omega arith) in rw at refl

-- an element that comes to pass: its place comes in, in order
pub places-more : {A : Type 0} (f : A → Bool) (from i : ℕ) (xs : List A) (x d : A) → i < length xs → f x ≡ true → f (slice_index_or xs i d) ≡ false
    → places_where f from (slice_set xs i x) ≡ insert (places_where f from xs) (position_or_len (nat_lt (from + i)) (places_where f from xs)) (from + i)
places-more f from i [] x d lt passes failed = absurd (omega (arith, lt))
places-more f from zero (a ∷ xs) x d lt passes failed =
    let same : from + 0 ≡ from = omega arith in
    rw (passes, failed, same, none_above f from (from + 1) xs (omega arith)) refl
places-more f from (suc i) (a ∷ xs) x d lt passes failed =
    let same : from + 1 + i ≡ from + suc i = omega arith in
    let rest = rw same at (places-more f (from + 1) i xs x d (omega (arith, lt)) passes failed) in
    elim (cases_Bool (f a)) [
      | inl has ↦
          let old : places_where f from (a ∷ xs) ≡ from ∷ places_where f (from + 1) xs = rw has refl in
          let new : places_where f from (slice_set (a ∷ xs) (suc i) x) ≡ from ∷ places_where f (from + 1) (slice_set xs i x) = rw has refl in
          new ∙ ap (λ l. from ∷ l) rest
          ∙ sym (insert_behind (nat_lt (from + suc i)) from (from + suc i) (places_where f (from + 1) xs) (le-ltb (from + suc i) from (omega arith)))
          ∙ ap (λ l. insert l (position_or_len (nat_lt (from + suc i)) l) (from + suc i)) (sym old)
      | inr none ↦ rw none rest
    ]

-- an element that no longer passes: its place goes
pub places-less : {A : Type 0} (f : A → Bool) (from i : ℕ) (xs : List A) (x d : A) → i < length xs → f x ≡ false → f (slice_index_or xs i d) ≡ true
    → places_where f from (slice_set xs i x) ≡ remove (places_where f from xs) (position_or_len (λ y. y == from + i) (places_where f from xs))
places-less f from i [] x d lt fails passed = absurd (omega (arith, lt))
places-less f from zero (a ∷ xs) x d lt fails passed =
    let same : from + 0 ≡ from = omega arith in
    rw (fails, passed, same, eq-eqb from from refl) refl
places-less f from (suc i) (a ∷ xs) x d lt fails passed =
    let same : from + 1 + i ≡ from + suc i = omega arith in
    let rest = rw same at (places-less f (from + 1) i xs x d (omega (arith, lt)) fails passed) in
    elim (cases_Bool (f a)) [
      | inl has ↦
          let old : places_where f from (a ∷ xs) ≡ from ∷ places_where f (from + 1) xs = rw has refl in
          let new : places_where f from (slice_set (a ∷ xs) (suc i) x) ≡ from ∷ places_where f (from + 1) (slice_set xs i x) = rw has refl in
          new ∙ ap (λ l. from ∷ l) rest
          ∙ sym (remove_behind (λ y. y == from + suc i) from (places_where f (from + 1) xs) (ne_eqb from (from + suc i) (λ e. absurd (omega (arith, e)))))
          ∙ ap (λ l. remove l (position_or_len (λ y. y == from + suc i) l)) (sym old)
      | inr none ↦ rw none rest
    ]

-- its place is among them
pub places-found : {A : Type 0} (f : A → Bool) (from i : ℕ) (xs : List A) (d : A) → i < length xs → f (slice_index_or xs i d) ≡ true → 0 < count_by (λ y. y == from + i) (places_where f from xs)
places-found f from i [] d lt passes = absurd (omega (arith, lt))
places-found f from zero (a ∷ xs) d lt passes =
    let same : from + 0 ≡ from = omega arith in
    let here : places_where f from (a ∷ xs) ≡ from ∷ places_where f (from + 1) xs = rw passes refl in
    rw (same, here) (omega (arith, sum_by-cons (λ y. cond (y == from) 1 0) from (places_where f (from + 1) xs), ap {B = ℕ} (λ (b : Bool). cond b 1 0) (eq-eqb from from refl)))
places-found f from (suc i) (a ∷ xs) d lt passes =
    let rest = places-found f (from + 1) i xs d (omega (arith, lt)) passes in
    let same : from + 1 + i ≡ from + suc i = omega arith in
    elim (cases_Bool (f a)) [
      | inl has ↦ rw has (omega (arith, sum_by-cons (λ y. cond (y == from + suc i) 1 0) from (places_where f (from + 1) xs), rw same at rest))
      | inr none ↦ rw (none, ← same) rest
    ]

-- an element that becomes another of the same answer: nothing changes
pub places-same : {A : Type 0} (f : A → Bool) (from i : ℕ) (xs : List A) (x d : A) → i < length xs → f x ≡ f (slice_index_or xs i d) → places_where f from (slice_set xs i x) ≡ places_where f from xs
places-same f from i [] x d lt same = absurd (omega (arith, lt))
places-same f from zero (a ∷ xs) x d lt same = rw same refl
places-same f from (suc i) (a ∷ xs) x d lt same = rw (places-same f (from + 1) i xs x d (omega (arith, lt)) same) refl

-- as many as pass
pub length-places : {A : Type 0} (f : A → Bool) (from : ℕ) (xs : List A) → length (places_where f from xs) ≡ count_by f xs
length-places f from [] = refl
length-places f from (x ∷ xs) =
    let all = sum_by-cons (λ y. cond (f y) 1 0) x xs in
    let rest = length-places f (from + 1) xs in
    elim (cases_Bool (f x)) [
      | inl passes ↦
          let here : places_where f from (x ∷ xs) ≡ from ∷ places_where f (from + 1) xs = rw passes refl in
          omega (arith, ap length here, rest, all, ap {B = ℕ} (λ (b : Bool). cond b 1 0) passes)
      | inr fails ↦
          let here : places_where f from (x ∷ xs) ≡ places_where f (from + 1) xs = rw fails refl in
          omega (arith, ap length here, rest, all, ap {B = ℕ} (λ (b : Bool). cond b 1 0) fails)
    ]

-- a sum over the places of one list is a sum over another that has nothing elsewhere
pub sum-places_of : {A : Type 0} (f : A → Bool) (g : ℕ → ℕ) (h : A → ℕ) (from : ℕ) (xs ys : List A) (d : A) → length xs ≡ length ys
    → ((i : ℕ) → i < length xs → f (slice_index_or xs i d) ≡ true → g (from + i) ≡ h (slice_index_or ys i d))
    → ((i : ℕ) → i < length xs → f (slice_index_or xs i d) ≡ false → h (slice_index_or ys i d) ≡ 0)
    → sum_by g (places_where f from xs) ≡ sum_by h ys
sum-places_of f g h from [] [] d len same none = refl
sum-places_of f g h from [] (y ∷ ys) d len same none = absurd (omega (arith, len))
sum-places_of f g h from (x ∷ xs) [] d len same none = absurd (omega (arith, len))
sum-places_of f g h from (x ∷ xs) (y ∷ ys) d len same none =
    let start : from + 0 ≡ from = omega arith in
    let rest = sum-places_of f g h (from + 1) xs ys d (omega (arith, len))
    (λ i lt passes. let e : from + 1 + i ≡ from + suc i = omega arith in rw e (same (suc i) (omega (arith, lt)) passes))
    (λ i lt. none (suc i) (omega (arith, lt))) in
    let all = sum_by-cons h y ys in
    elim (cases_Bool (f x)) [
      | inl passes ↦
          let here : places_where f from (x ∷ xs) ≡ from ∷ places_where f (from + 1) xs = rw passes refl in
          let first : g from ≡ h y = rw start at (same 0 (omega arith) passes) in
          omega (arith, ap (sum_by g) here, sum_by-cons g from (places_where f (from + 1) xs), first, rest, all)
      | inr fails ↦
          let here : places_where f from (x ∷ xs) ≡ places_where f (from + 1) xs = rw fails refl in
          omega (arith, ap (sum_by g) here, rest, all, none 0 (omega arith) fails)
    ]

-- a sum over the places is the sum over the elements that pass
pub sum-places : {A : Type 0} (f : A → Bool) (g : ℕ → ℕ) (h : A → ℕ) (from : ℕ) (xs : List A) (d : A) → ((i : ℕ) → i < length xs → g (from + i) ≡ h (slice_index_or xs i d))
    → sum_by g (places_where f from xs) ≡ sum_by (λ x. cond (f x) (h x) 0) xs
sum-places f g h from xs d same =
    sum-places_of f g (λ x. cond (f x) (h x) 0) from xs xs d refl (λ i lt passes. rw passes (same i lt)) (λ i lt fails. rw fails refl)

-- each place is one of the list
pub places-within : {A : Type 0} (f : A → Bool) (from n : ℕ) (xs : List A) → from + length xs ≡ n → All (λ i. i < n) (places_where f from xs)
places-within f from n [] is = All-nil (λ i. i < n)
places-within f from n (x ∷ xs) is =
    let rest = places-within f (from + 1) n xs (omega (arith, is)) in
    elim (cases_Bool (f x)) [
      | inl passes ↦ rw passes (All-cons (λ i. i < n) from (places_where f (from + 1) xs) (omega (arith, is)) rest)
      | inr fails ↦ rw fails rest
    ]

-- a place is among those where a test passes, where it passes there
places-below : {A : Type 0} (f : A → Bool) (a d : ℕ) (xs : List A) → d < a → list_any (nat_eq d) (places_where f a xs) ≡ false
places-below f a d [] h = refl
places-below f a d (x ∷ xs) h =
    let rest : list_any (nat_eq d) (places_where f (a + 1) xs) ≡ false = places-below f (a + 1) d xs (omega arith) in
    let apart : nat_eq d a ≡ false = ne_eqb d a (λ e. absurd (omega arith)) in
    elim (cases_Bool (f x)) [ inl passes ↦ rw (passes, apart) rest | inr fails ↦ rw fails rest ]

places-from : {A : Type 0} (f : A → Bool) (e : A) (a d : ℕ) (xs : List A) → f e ≡ false → list_any (nat_eq (a + d)) (places_where f a xs) ≡ f (slice_index_or xs d e)
places-from f e a d [] none = sym none
places-from f e a zero (x ∷ xs) none =
    let same : a + 0 ≡ a = omega arith in
    let equal : nat_eq a a ≡ true = eq-eqb a a refl in
    elim (cases_Bool (f x)) [ inl passes ↦ rw (same, passes, equal) refl | inr fails ↦ rw (same, fails) (places-below f (a + 1) a xs (omega arith)) ]
places-from f e a (suc d) (x ∷ xs) none =
    let on : a + 1 + d ≡ a + suc d = omega arith in
    let rest : list_any (nat_eq (a + suc d)) (places_where f (a + 1) xs) ≡ f (slice_index_or xs d e) = rw on at (places-from f e (a + 1) d xs none) in
    let apart : nat_eq (a + suc d) a ≡ false = ne_eqb (a + suc d) a (λ same. absurd (omega (arith, same))) in
    elim (cases_Bool (f x)) [ inl passes ↦ rw (passes, apart) rest | inr fails ↦ rw fails rest ]

pub places-each : {A : Type 0} (f : A → Bool) (e : A) (d : ℕ) (xs : List A) → f e ≡ false → list_any (nat_eq d) (places_where f 0 xs) ≡ f (slice_index_or xs d e)
places-each f e d xs none = let same : 0 + d ≡ d = omega arith in rw same at (places-from f e 0 d xs none)

-- a count of what is still to come, after its first
pub count_step : (p : ℕ → Bool) (xs : List ℕ) (x : ℕ) (rest : List ℕ) (b : Bool) → xs ≡ x ∷ rest → p x ≡ b → count_by p xs ≡ cond b 1 0 + count_by p rest
count_step p xs x rest b e is = ap (count_by p) e ∙ rw (← is) (sum_by-cons (λ y. cond (p y) 1 0) x rest)
