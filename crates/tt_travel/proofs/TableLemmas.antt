-- What a table of travel has after a pair of rooms is set.
use Rattle.std.proofs.Common.{◌≡◌, ◌≢◌, ◌⊎◌, ℕ, ◌+◌, ◌*◌, ◌<◌, ◌/◌, ◌%◌, List, Option, Some, None, length, get_or-set_same, get_or-set_other, ◌≤◌, zero, suc, max, sym, ap, ◌∙◌, inl, inr, refl, arith}
use Rattle.std.specs.Prelude.{slice_index, slice_set, replicate, All, ◌==◌}
use Rattle.std.proofs.lemmas.Nat.{div-mul-add, mod-mul-add, mul-add-lt}
use Rattle.std.proofs.lemmas.Bool.{cases_eq, cases_Bool}
use Rattle.std.proofs.lemmas.Bool.Decides.{nat_tests}
use Rattle.std.proofs.lemmas.List.{length-replicate}
use Rattle.std.proofs.lemmas.List.Elements.{All-set, All-weaker}
use Rattle.std.proofs.Math.ListN.{length-set}
use Rattle.tt_base.specs.Limits.{most_rooms}
use Rattle.tt_travel.specs.Table.{Table, between, no_travel, with_travel, IsRoomOf, IsTravel, IsPair}

-- a fact of two parts holds or doesn't
both_hold : {A B : Type 0} → A ⊎ ¬ A → B ⊎ ¬ B → (A × B) ⊎ ¬ (A × B)
both_hold (inl a) (inl b) = inl (a, b)
both_hold (inl a) (inr n) = inr (λ p. n p.1)
both_hold (inr n) b = inr (λ p. n p.0)

-- one of two facts holds or neither
one_holds : {A B : Type 0} → A ⊎ ¬ A → B ⊎ ¬ B → (A ⊎ B) ⊎ ¬ (A ⊎ B)
one_holds (inl a) b = inl (inl a)
one_holds (inr n) (inl b) = inl (inr b)
one_holds (inr n) (inr m) = inr (elim [ inl a ↦ n a | inr b ↦ m b ])

-- two rooms are a pair or aren't
pair_or_other : (a b c d : ℕ) → IsPair a b c d ⊎ ¬ IsPair a b c d
pair_or_other a b c d =
    one_holds (both_hold (cases_eq c a) (cases_eq d b)) (both_hold (cases_eq c b) (cases_eq d a))

-- different pairs of rooms stand at different places
same_place : (r a b c d : ℕ) → b < r → d < r → c * r + d ≡ a * r + b → (c ≡ a) × (d ≡ b)
same_place r a b c d hb hd e = (
  sym (div-mul-add c r d hd) ∙ ap (λ n. n / r) e ∙ div-mul-add a r b hb,
  sym (mod-mul-add c r d hd) ∙ ap (λ n. n % r) e ∙ mod-mul-add a r b hb,
)

-- the table with the places of a pair of rooms set
abbrev pair_set : Table → ℕ → ℕ → ℕ → Table
pair_set t a b n = record t { slots = slice_set (slice_set t.slots (a * t.rooms + b) n) (b * t.rooms + a) n }

-- other pairs keep what they had
between-other : (t : Table) (a b n c d : ℕ) → a < t.rooms → b < t.rooms → d < t.rooms → ¬ IsPair a b c d
    → between (pair_set t a b n) (Some c) (Some d) ≡ between t (Some c) (Some d)
between-other t a b n c d ha hb hd other =
    let there : c * t.rooms + d ≢ a * t.rooms + b = λ e. other (inl (same_place t.rooms a b c d hb hd e)) in
    let back : c * t.rooms + d ≢ b * t.rooms + a = λ e. other (inr (same_place t.rooms b a c d ha hd e)) in
    get_or-set_other _ _ _ n 0 back ∙ get_or-set_other _ _ _ n 0 there

-- the pair has what was set, there and back
between-pair : (t : Table) (a b n c d : ℕ) → IsTravel t → a < t.rooms → b < t.rooms → a ≢ b → IsPair a b c d
    → between (pair_set t a b n) (Some c) (Some d) ≡ n
between-pair t a b n c d s ha hb ne (inl p) =
    let apart : a * t.rooms + b ≢ b * t.rooms + a = λ e. ne (same_place t.rooms b a a b ha hb e).0 in
    let within : a * t.rooms + b < length t.slots = omega (arith, s.whole, mul-add-lt a t.rooms b t.rooms ha hb) in
    rw (p.0, p.1) (get_or-set_other _ _ _ n 0 apart ∙ get_or-set_same t.slots _ n 0 within)
between-pair t a b n c d s ha hb ne (inr p) =
    let within : b * t.rooms + a < length t.slots = omega (arith, s.whole, mul-add-lt b t.rooms a t.rooms hb ha) in
    let kept = length-set t.slots (a * t.rooms + b) n in
    rw (p.0, p.1) (get_or-set_same (slice_set t.slots (a * t.rooms + b) n) _ n 0 (omega (arith, kept)))

-- a pair is a pair the other way round
turned : (a b c d : ℕ) → IsPair a b c d → IsPair a b d c
turned a b c d (inl p) = inr (p.1, p.0)
turned a b c d (inr p) = inl (p.1, p.0)

-- the table stays the same both ways
both_ways : (t : Table) (a b n c d : ℕ) → IsTravel t → a < t.rooms → b < t.rooms → a ≢ b → c < t.rooms → d < t.rooms
    → between (pair_set t a b n) (Some c) (Some d) ≡ between (pair_set t a b n) (Some d) (Some c)
both_ways t a b n c d s ha hb ne hc hd = elim (pair_or_other a b c d) [
  | inl p ↦ between-pair t a b n c d s ha hb ne p ∙ sym (between-pair t a b n d c s ha hb ne (turned a b c d p))
  | inr other ↦
      between-other t a b n c d ha hb hd other
      ∙ s.both_ways (Some c) (Some d) hc hd
      ∙ sym (between-other t a b n d c ha hb hc (λ p. other (turned a b d c p)))
]

-- two rooms are no pair of one room
one_room : (a b c : ℕ) → a ≢ b → ¬ IsPair a b c c
one_room a b c ne (inl p) = ne (sym p.0 ∙ p.1)
one_room a b c ne (inr p) = ne (sym p.1 ∙ p.0)

IsTravel-pair_set : (t : Table) (a b n : ℕ) → IsTravel t → a < t.rooms → b < t.rooms → a ≢ b → IsTravel (pair_set t a b n)
IsTravel-pair_set t a b n s ha hb ne = record {
  few = s.few;
  whole = length-set _ _ n ∙ length-set t.slots _ n ∙ s.whole;
  both_ways = λ c d. ways c d;
  itself = λ c. stays c;
}
  where
    ways : (c d : Option ℕ) → IsRoomOf t c → IsRoomOf t d → between (pair_set t a b n) c d ≡ between (pair_set t a b n) d c
    ways None None hc hd = refl
    ways None (Some d) hc hd = refl
    ways (Some c) None hc hd = refl
    ways (Some c) (Some d) hc hd = both_ways t a b n c d s ha hb ne hc hd

    stays : (c : Option ℕ) → IsRoomOf t c → between (pair_set t a b n) c c ≡ 0
    stays None hc = refl
    stays (Some c) hc = between-other t a b n c c ha hb hc (one_room a b c ne) ∙ s.itself (Some c) hc

-- the table that the code leaves: t as it was kept, with the places i and j of the pair set
abbrev pub places_set : Table → ℕ → ℕ → ℕ → Table
places_set t i j n = record { rooms = t.rooms; slots = slice_set (slice_set t.slots i n) j n }

-- the places of a pair are those that the table has set
places_are : (kept t : Table) (a b i j n : ℕ) → kept ≡ t → i ≡ a * t.rooms + b → j ≡ b * t.rooms + a
    → places_set kept i j n ≡ pair_set t a b n
places_are kept t a b i j n e there back = rw (e, there, back) refl

pub IsTravel-places_set : (kept t : Table) (a b i j n : ℕ) → kept ≡ t → i ≡ a * t.rooms + b → j ≡ b * t.rooms + a
    → IsTravel kept → a < t.rooms → b < t.rooms → a ≢ b → IsTravel (places_set kept i j n)
IsTravel-places_set kept t a b i j n e there back s ha hb ne =
    rw (places_are kept t a b i j n e there back) (IsTravel-pair_set t a b n (rw e at s) ha hb ne)

pub between-places_set : (kept t : Table) (a b i j n : ℕ) → kept ≡ t → i ≡ a * t.rooms + b → j ≡ b * t.rooms + a
    → a < t.rooms → b < t.rooms → (c d : ℕ) → c < t.rooms → d < t.rooms → ¬ IsPair a b c d
    → between (places_set kept i j n) (Some c) (Some d) ≡ between t (Some c) (Some d)
between-places_set kept t a b i j n e there back ha hb c d hc hd other =
    ap (λ u. between u (Some c) (Some d)) (places_are kept t a b i j n e there back)
    ∙ between-other t a b n c d ha hb hd other

-- with two places set, no slots are more than the most before or what was set
pub All-places_set : (slots : List ℕ) (i j n most next : ℕ) → All (λ m. m ≤ most) slots → next ≡ max most n
    → All (λ m. m ≤ next) (slice_set (slice_set slots i n) j n)
All-places_set slots i j n most next few is =
    let IsFew : ℕ → Type 0 = λ m. m ≤ next in
    let before = All-weaker (λ m. m ≤ most) IsFew (λ m h. omega (arith, h, is)) slots few in
    let set : n ≤ next = omega (arith, is) in
    All-set IsFew (slice_set slots i n) j n set (All-set IsFew slots i n set before)

pub rooms-no_travel : (n : ℕ) → (no_travel n).rooms ≡ n
unfolding no_travel
rooms-no_travel n = refl

pub rooms-with_travel : (t : Table) (a b n : ℕ) → (with_travel t a b n).rooms ≡ t.rooms
unfolding with_travel
rooms-with_travel t a b n = elim (cases_Bool (a == b)) [ inl same ↦ rw same refl | inr other ↦ rw other refl ]

zero_at : (n i : ℕ) → slice_index (replicate n 0) i ≡ 0
zero_at zero i = refl
zero_at (suc n) zero = refl
zero_at (suc n) (suc i) = zero_at n i

-- a table without travel is one of travel
pub IsTravel-no_travel : (n : ℕ) → n ≤ most_rooms → IsTravel (no_travel n)
unfolding no_travel
IsTravel-no_travel n few = record {
  few = few;
  whole = length-replicate (n * n) 0;
  both_ways = λ a b from to. none a b ∙ sym (none b a);
  itself = λ a from. none a a;
}
  where
    none : (a b : Option ℕ) → between (record { rooms = n; slots = replicate (n * n) 0 }) a b ≡ 0
    none None b = refl
    none (Some a) None = refl
    none (Some a) (Some b) = zero_at (n * n) (a * n + b)

-- a table stays one of travel with any slots between two of its rooms
pub IsTravel-with_travel : (t : Table) (a b n : ℕ) → IsTravel t → a < t.rooms → b < t.rooms → IsTravel (with_travel t a b n)
unfolding with_travel
IsTravel-with_travel t a b n s ha hb =
    elim (cases_Bool (a == b)) [
      | inl same ↦ rw same s
      | inr other ↦ let ne : a ≢ b = grind (arith, nat_tests) in rw other (IsTravel-pair_set t a b n s ha hb ne)
    ]
