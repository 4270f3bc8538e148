-- Blocks that are cut off a cell one after the other are those of the definition.
use Rattle.std.proofs.Common.{◌≡◌, ◌∙◌, ℕ, ◌+◌, ◌-◌, ◌<◌, ◌≤◌, true, ◌&&◌, cond, List, [], ◌∷◌, length, take, drop, get_or, refl, sym, ap, suc, arith, inl, inr, max, drop-cons}
use Rattle.std.specs.Prelude.{nat_lt}
use Rattle.std.proofs.lemmas.Bool.{cases_Bool, ltb-true, ltb-false, lt-ltb, le-ltb, and_parts, and_from}
use Rattle.std.proofs.lemmas.List.{drop_all}
use Rattle.tt_bits.specs.declared.times.Spot.{Spot}
use Rattle.tt_bits.specs.Times.{end_of}
use Rattle.tt_measure.specs.Blocks.{is_head, up_to_head, blocks_after, latest_end}

-- ---- how far a block goes, by the latest end so far

-- how many spots come before one that starts more than the gap after the latest end
abbrev pub joined : ℕ → ℕ → List Spot → ℕ
joined gap latest [] = 0
joined gap latest (x ∷ xs) = cond (nat_lt gap (x.time.start - latest)) 0 (suc (joined gap (max latest (end_of x.time)) xs))

late_by : (gap latest start : ℕ) → nat_lt gap (start - latest) ≡ nat_lt (latest + gap) start
late_by gap latest start = elim (cases_Bool (nat_lt (latest + gap) start)) [
  | inl t ↦ let below = ltb-true (latest + gap) start t in rw (t, lt-ltb gap (start - latest) (omega arith)) refl
  | inr n ↦ let above = ltb-false (latest + gap) start n in rw (n, le-ltb gap (start - latest) (omega arith)) refl
]

late_after_both : (a b gap s : ℕ) → (nat_lt gap (s - a) && nat_lt gap (s - b)) ≡ nat_lt gap (s - max a b)
late_after_both a b gap s = elim (cases_Bool (nat_lt gap (s - max a b))) [
  | inl t ↦
      let below = ltb-true gap (s - max a b) t in
      rw (t, lt-ltb gap (s - a) (omega arith), lt-ltb gap (s - b) (omega arith)) refl
  | inr n ↦
      let above = ltb-false gap (s - max a b) n in
      elim (cases_Bool (nat_lt gap (s - a))) [
        | inl t ↦ let first = ltb-true gap (s - a) t in rw (n, t, le-ltb gap (s - b) (omega arith)) refl
        | inr m ↦ rw (n, m) refl
      ]
]

-- a spot after others is a head by the latest end of these
head_by_latest : (gap : ℕ) (y : Spot) (ys : List Spot) (x : Spot) → is_head gap (y ∷ ys) x ≡ nat_lt gap (x.time.start - latest_end (y ∷ ys))
head_by_latest gap y [] x = both_one (end_of y.time)
  where
    both_one : (a : ℕ) → (nat_lt (a + gap) x.time.start && true) ≡ nat_lt gap (x.time.start - max a 0)
    both_one a =
        let z : max a 0 ≡ a = omega arith in
        rw (z, late_by gap a x.time.start) (elim (cases_Bool (nat_lt (a + gap) x.time.start)) [ inl t ↦ rw t refl | inr n ↦ rw n refl ])
head_by_latest gap y (z ∷ zs) x =
    ap (λ b. nat_lt (end_of y.time + gap) x.time.start && b) (head_by_latest gap z zs x)
    ∙ ap (λ b. b && nat_lt gap (x.time.start - latest_end (z ∷ zs))) (sym (late_by gap (end_of y.time) x.time.start))
    ∙ late_after_both (end_of y.time) (latest_end (z ∷ zs)) gap x.time.start

joined_after : (gap : ℕ) (y : Spot) (ys xs : List Spot) → length (up_to_head gap (y ∷ ys) xs) ≡ joined gap (latest_end (y ∷ ys)) xs
joined_after gap y ys [] = refl
joined_after gap y ys (x ∷ xs) =
    let is = head_by_latest gap y ys x in
    let later = joined_after gap x (y ∷ ys) xs in
    let swap : max (end_of x.time) (latest_end (y ∷ ys)) ≡ max (latest_end (y ∷ ys)) (end_of x.time) = omega arith in
    let same = later ∙ ap (λ n. joined gap n xs) swap in
    elim (cases_Bool (is_head gap (y ∷ ys) x)) [
      | inl t ↦ rw (t, sym is ∙ t) refl
      | inr n ↦ rw (n, sym is ∙ n) (ap suc same)
    ]

joined_is : (gap : ℕ) (hd : Spot) (xs : List Spot) → joined gap (end_of hd.time) xs ≡ length (up_to_head gap (hd ∷ []) xs)
joined_is gap hd xs =
    let z : max (end_of hd.time) 0 ≡ end_of hd.time = omega arith in
    sym (joined_after gap hd [] xs ∙ ap (λ n. joined gap n xs) z)

-- a spot is joined to itself
joined_head : (gap : ℕ) (hd : Spot) (xs : List Spot) → joined gap (end_of hd.time) (hd ∷ xs) ≡ suc (length (up_to_head gap (hd ∷ []) xs))
joined_head gap hd xs =
    let same : max (end_of hd.time) (end_of hd.time) ≡ end_of hd.time = omega arith in
    rw (le-ltb gap (hd.time.start - end_of hd.time) (omega arith), same) (ap suc (joined_is gap hd xs))

-- a block ends with the cell
pub none_joined : (gap latest n : ℕ) (xs : List Spot) → length xs ≤ n → joined gap latest (drop n xs) ≡ 0
none_joined gap latest n xs past = rw (drop_all n xs past) refl

-- and before a spot that starts late
pub late_not_joined : (gap latest n : ℕ) (xs : List Spot) (x : Spot) → n < length xs → x ≡ get_or xs n x → gap < x.time.start - latest → joined gap latest (drop n xs) ≡ 0
late_not_joined gap latest n xs x within is late =
    rw (drop-cons xs n x within, sym is, lt-ltb gap (x.time.start - latest) late) refl

-- ---- what is left when a block is cut off

-- a head is past all before it, so what comes later is past them where it is past the head
past_head : (gap : ℕ) (before : List Spot) (x y : Spot) → is_head gap before x ≡ true → nat_lt (end_of x.time + gap) y.time.start ≡ true → is_head gap before y ≡ true
past_head gap [] x y first past = refl
past_head gap (b ∷ before) x y first past =
    let parts = and_parts (nat_lt (end_of b.time + gap) x.time.start) (is_head gap before x) first in
    let one = ltb-true (end_of b.time + gap) x.time.start parts.0 in
    let two = ltb-true (end_of x.time + gap) y.time.start past in
    and_from _ _ (lt-ltb (end_of b.time + gap) y.time.start (omega arith)) (past_head gap before x y parts.1 past)

only_head : (gap : ℕ) (before : List Spot) (x y : Spot) → is_head gap before x ≡ true → is_head gap (x ∷ before) y ≡ is_head gap (x ∷ []) y
only_head gap before x y first = elim (cases_Bool (nat_lt (end_of x.time + gap) y.time.start)) [
  | inl t ↦ rw (t, past_head gap before x y first t) refl
  | inr n ↦ rw n refl
]

-- the blocks by what is a head
blocks_alike : (gap : ℕ) (ys zs : List Spot) → ((y : Spot) → is_head gap ys y ≡ is_head gap zs y) → (xs : List Spot)
    → (up_to_head gap ys xs ≡ up_to_head gap zs xs) × (blocks_after gap ys xs ≡ blocks_after gap zs xs)
blocks_alike gap ys zs same [] = (refl, refl)
blocks_alike gap ys zs same (x ∷ xs) =
    let later = blocks_alike gap (x ∷ ys) (x ∷ zs) (λ y. ap (λ b. nat_lt (end_of x.time + gap) y.time.start && b) (same y)) xs in
    rw (same x, later.0, later.1) (refl, refl)

-- the blocks after some spots are those of the spots from the next head on
pub blocks_from_head : (gap : ℕ) (before xs : List Spot) → blocks_after gap before xs ≡ blocks_after gap [] (drop (length (up_to_head gap before xs)) xs)
blocks_from_head gap before [] = refl
blocks_from_head gap before (x ∷ xs) = elim (cases_Bool (is_head gap before x)) [
  | inl t ↦
      let later = blocks_alike gap (x ∷ before) (x ∷ []) (λ y. only_head gap before x y t) xs in
      rw (t, later.0, later.1) refl
  | inr n ↦ rw n (blocks_from_head gap (x ∷ before) xs)
]

pub block_taken : (gap : ℕ) (before xs : List Spot) → take (length (up_to_head gap before xs)) xs ≡ up_to_head gap before xs
block_taken gap before [] = refl
block_taken gap before (x ∷ xs) = elim (cases_Bool (is_head gap before x)) [
  | inl t ↦ rw t refl
  | inr n ↦ rw n (ap (λ l. x ∷ l) (block_taken gap (x ∷ before) xs))
]

-- a cell has a first block, and those of the rest
pub block_cut : (gap n end : ℕ) (cell : List Spot) (d : Spot) → 0 < length cell → end ≡ end_of (get_or cell 0 d).time → n ≡ joined gap end cell
    → blocks_after gap [] cell ≡ take n cell ∷ blocks_after gap [] (drop n cell)
block_cut gap n end [] d some is cut = absurd (omega arith)
block_cut gap n end (x ∷ xs) d some is cut =
    let all : n ≡ suc (length (up_to_head gap (x ∷ []) xs)) = cut ∙ ap (λ k. joined gap k (x ∷ xs)) is ∙ joined_head gap x xs in
    rw (all, block_taken gap (x ∷ []) xs, sym (blocks_from_head gap (x ∷ []) xs)) refl
