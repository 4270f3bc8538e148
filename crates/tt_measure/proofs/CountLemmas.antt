-- What is counted spot by spot is what the definition of blocks gives.
use Rattle.std.proofs.Common.{◌≡◌, ◌∙◌, ℕ, ◌+◌, ◌-◌, ◌<◌, Bool, true, false, not, ◌&&◌, cond, eqb, List, [], ◌∷◌, ◌++◌, length, refl, sym, ap, arith, inl, inr, count_by, max, append_assoc, length-append}
use Rattle.std.proofs.lemmas.List.{append-nil}
use Rattle.std.specs.Prelude.{nat_lt}
use Rattle.std.proofs.lemmas.Bool.{cases_Bool, ltb-true, ltb-false, lt-ltb, le-ltb, and_parts, ne_eqb}
use Rattle.std.proofs.lemmas.List.Sums.{sum_by-cons}
use Rattle.tt_bits.specs.declared.times.Spot.{Spot}
use Rattle.tt_bits.specs.Times.{end_of}
use Rattle.tt_measure.specs.Blocks.{is_head, up_to_head, blocks_after, latest_end, is_too_long}
use Rattle.tt_measure.specs.declared.counting.Blocks.{Blocks}
use Rattle.tt_measure.specs.Counting.{no_blocks, starts_block, with_head, with_spot, counted, counted_all}

both_below : (a b gap s : ℕ) → (nat_lt (a + gap) s && nat_lt (b + gap) s) ≡ nat_lt (max a b + gap) s
both_below a b gap s = elim (cases_Bool (nat_lt (max a b + gap) s)) [
  | inl t ↦
      let below = ltb-true (max a b + gap) s t in
      rw (t, lt-ltb (a + gap) s (omega arith), lt-ltb (b + gap) s (omega arith)) refl
  | inr n ↦
      let above = ltb-false (max a b + gap) s n in
      elim (cases_Bool (nat_lt (a + gap) s)) [
        | inl t ↦ let first = ltb-true (a + gap) s t in rw (n, t, le-ltb (b + gap) s (omega arith)) refl
        | inr m ↦ rw (n, m) refl
      ]
]

-- a spot is a head by the latest end of those before it
head_by_latest : (gap : ℕ) (y : Spot) (ys : List Spot) (x : Spot) → is_head gap (y ∷ ys) x ≡ nat_lt (latest_end (y ∷ ys) + gap) x.time.start
head_by_latest gap y [] x = both_one (end_of y.time)
  where
    both_one : (a : ℕ) → (nat_lt (a + gap) x.time.start && true) ≡ nat_lt (max a 0 + gap) x.time.start
    both_one a = let z : max a 0 ≡ a = omega arith in rw z (elim (cases_Bool (nat_lt (a + gap) x.time.start)) [ inl t ↦ rw t refl | inr n ↦ rw n refl ])
head_by_latest gap y (z ∷ zs) x =
    ap (λ b. nat_lt (end_of y.time + gap) x.time.start && b) (head_by_latest gap z zs x)
    ∙ both_below (end_of y.time) (latest_end (z ∷ zs)) gap x.time.start

-- after some spots, the last first: some block has begun, and the latest end is theirs
record IsAfter (b : Blocks) (y : Spot) (ys : List Spot) : Type 0 where
  some : 0 < b.heads
  latest : b.latest ≡ latest_end (y ∷ ys)

starts_is : (b : Blocks) (y : Spot) (ys : List Spot) (x : Spot) → IsAfter b y ys → starts_block b x ≡ is_head b.gap (y ∷ ys) x
starts_is b y ys x after =
    let none : eqb b.heads 0 ≡ false = ne_eqb b.heads 0 (λ e. let some = after.some in absurd (omega (arith, e))) in
    rw (none, after.latest) (sym (head_by_latest b.gap y ys x))

IsAfter-head : (b : Blocks) (y : Spot) (ys : List Spot) (x : Spot) → IsAfter b y ys → is_head b.gap (y ∷ ys) x ≡ true → IsAfter (with_head b x) x (y ∷ ys)
IsAfter-head b y ys x after t =
    let late = ltb-true _ _ (sym (head_by_latest b.gap y ys x) ∙ t) in
    record { some = omega arith; latest = omega arith }

IsAfter-spot : (b : Blocks) (y : Spot) (ys : List Spot) (x : Spot) (long : Bool) → IsAfter b y ys → IsAfter (with_spot b x long) x (y ∷ ys)
IsAfter-spot b y ys x long after = let e = after.latest in record { some = after.some; latest = omega arith }

-- the last block after one more spot
abbrev makes_long : Blocks → Spot → Bool
makes_long b x = nat_lt b.most (max b.latest (end_of x.time) - b.start)

heads_more : (b : Blocks) (y : Spot) (ys xs : List Spot) → IsAfter b y ys → (counted_all b xs).heads ≡ b.heads + length (blocks_after b.gap (y ∷ ys) xs)
heads_more b y ys [] after = omega arith
heads_more b y ys (x ∷ xs) after =
    let is = starts_is b y ys x after in
    elim (cases_Bool (is_head b.gap (y ∷ ys) x)) [
      | inl t ↦
          let c : counted b x ≡ with_head b x = rw (is ∙ t) refl in
          let later = heads_more (with_head b x) x (y ∷ ys) xs (IsAfter-head b y ys x after t) in
          ap (λ d. (counted_all d xs).heads) c ∙ later ∙ rw t (omega arith)
      | inr n ↦
          let c : counted b x ≡ with_spot b x (makes_long b x) = rw (is ∙ n) refl in
          let later = heads_more (with_spot b x (makes_long b x)) x (y ∷ ys) xs (IsAfter-spot b y ys x (makes_long b x) after) in
          ap (λ d. (counted_all d xs).heads) c ∙ later ∙ rw n refl
    ]

-- each block has its head counted
pub heads_counted : (gap most : ℕ) (xs : List Spot) → (counted_all (no_blocks gap most) xs).heads ≡ length (blocks_after gap [] xs)
heads_counted gap most [] = refl
heads_counted gap most (x ∷ xs) =
    let after : IsAfter (with_head (no_blocks gap most) x) x [] = record { some = omega arith; latest = omega arith } in
    heads_more (with_head (no_blocks gap most) x) x [] xs after ∙ omega arith

-- the last block, its head first
record IsBlock (b : Blocks) (hd : Spot) (rest : List Spot) : Type 0 where
  start : b.start ≡ hd.time.start
  latest : b.latest ≡ latest_end (hd ∷ rest)
  long : b.is_long ≡ is_too_long b.most (hd ∷ rest)

IsBlock-head : (b : Blocks) (x : Spot) → IsBlock (with_head b x) x []
IsBlock-head b x = record { start = refl; latest = omega arith; long = refl }

latest_end-push : (l : List Spot) (x : Spot) → latest_end (l ++ x ∷ []) ≡ max (latest_end l) (end_of x.time)
latest_end-push [] x = omega arith
latest_end-push (y ∷ ys) x = let e = latest_end-push ys x in omega (arith, e)

-- the last block and one more spot is too long by its latest end
long_by_latest : (most : ℕ) (hd : Spot) (rest : List Spot) (x : Spot)
    → is_too_long most (hd ∷ (rest ++ x ∷ [])) ≡ nat_lt most (max (latest_end (hd ∷ rest)) (end_of x.time) - hd.time.start)
long_by_latest most hd rest x =
    let several : nat_lt 0 (length (rest ++ x ∷ [])) ≡ true = lt-ltb 0 (length (rest ++ x ∷ [])) (omega (arith, length-append rest (x ∷ []))) in
    rw several (ap (λ (n : ℕ). nat_lt most (n - hd.time.start)) (latest_end-push (hd ∷ rest) x))

IsBlock-spot : (b : Blocks) (hd : Spot) (rest : List Spot) (x : Spot) → IsBlock b hd rest → IsBlock (with_spot b x (makes_long b x)) hd (rest ++ x ∷ [])
IsBlock-spot b hd rest x block = record {
  start = block.start;
  latest = let e = block.latest in omega (arith, latest_end-push (hd ∷ rest) x);
  long = rw (long_by_latest b.most hd rest x, block.latest, block.start) refl;
}

-- a block that is too long stays so
stays_long : (b : Blocks) (hd : Spot) (rest : List Spot) (x : Spot) → IsBlock b hd rest → b.is_long ≡ true → makes_long b x ≡ true
stays_long b hd rest x block t =
    let parts = and_parts (nat_lt 0 (length rest)) (nat_lt b.most (latest_end (hd ∷ rest) - hd.time.start)) (sym block.long ∙ t) in
    let above = ltb-true b.most (latest_end (hd ∷ rest) - hd.time.start) parts.1 in
    let s = block.start in
    let l = block.latest in
    lt-ltb b.most (max b.latest (end_of x.time) - b.start) (omega arith)

one_more : (was is : Bool) → (was ≡ true → is ≡ true) → cond is 1 0 ≡ cond was 1 0 + cond (is && not was) 1 0
one_more true is stays = rw (stays refl) refl
one_more false true stays = refl
one_more false false stays = refl

long_more : (b : Blocks) (y : Spot) (ys : List Spot) (hd : Spot) (rest xs : List Spot) → IsAfter b y ys → IsBlock b hd rest
    → (counted_all b xs).long + cond b.is_long 1 0
    ≡ b.long + cond (is_too_long b.most (hd ∷ (rest ++ up_to_head b.gap (y ∷ ys) xs))) 1 0 + count_by (is_too_long b.most) (blocks_after b.gap (y ∷ ys) xs)
long_more b y ys hd rest [] after block =
    rw (append-nil, block.long) (omega arith)
long_more b y ys hd rest (x ∷ xs) after block =
    let is = starts_is b y ys x after in
    elim (cases_Bool (is_head b.gap (y ∷ ys) x)) [
      | inl t ↦
          let c : counted b x ≡ with_head b x = rw (is ∙ t) refl in
          let same = ap (λ d. (counted_all d xs).long) c in
          let later = long_more (with_head b x) x (y ∷ ys) x [] xs (IsAfter-head b y ys x after t) (IsBlock-head b x) in
          let one = sum_by-cons (λ l. cond (is_too_long b.most l) 1 0) (x ∷ up_to_head b.gap (x ∷ y ∷ ys) xs) (blocks_after b.gap (x ∷ y ∷ ys) xs) in
          let was = ap {B = ℕ} (λ (long : Bool). cond long 1 0) block.long in
          let ends = ap {B = ℕ} (λ l. cond (is_too_long b.most (hd ∷ l)) 1 0) (append-nil rest) in
          rw t (omega (arith, same, later, one, was, ends))
      | inr n ↦
          let c : counted b x ≡ with_spot b x (makes_long b x) = rw (is ∙ n) refl in
          let same = ap (λ d. (counted_all d xs).long) c in
          let later = long_more (with_spot b x (makes_long b x)) x (y ∷ ys) hd (rest ++ x ∷ []) xs (IsAfter-spot b y ys x (makes_long b x) after) (IsBlock-spot b hd rest x block) in
          let joined = append_assoc rest (x ∷ []) (up_to_head b.gap (x ∷ y ∷ ys) xs) in
          let regrouped = rw joined at later in
          let step = one_more b.is_long (makes_long b x) (stays_long b hd rest x block) in
          rw n (omega (arith, same, regrouped, step))
    ]

-- the blocks that are too long are counted
pub long_counted : (gap most : ℕ) (xs : List Spot) → (counted_all (no_blocks gap most) xs).long ≡ count_by (is_too_long most) (blocks_after gap [] xs)
long_counted gap most [] = refl
long_counted gap most (x ∷ xs) =
    let b = with_head (no_blocks gap most) x in
    let after : IsAfter b x [] = record { some = omega arith; latest = omega arith } in
    let later = long_more b x [] x [] xs after (IsBlock-head (no_blocks gap most) x) in
    omega (arith, later, sum_by-cons (λ l. cond (is_too_long most l) 1 0) (x ∷ up_to_head gap (x ∷ []) xs) (blocks_after gap (x ∷ []) xs))

-- so what counted the spots has so many heads
pub heads_of : (b : Blocks) (gap most : ℕ) (xs : List Spot) → b ≡ counted_all (no_blocks gap most) xs → b.heads ≡ length (blocks_after gap [] xs)
heads_of b gap most xs is = ap (λ (d : Blocks). d.heads) is ∙ heads_counted gap most xs

-- and so many of the blocks are too long
pub long_of : (b : Blocks) (gap most : ℕ) (xs : List Spot) → b ≡ counted_all (no_blocks gap most) xs → b.long ≡ count_by (is_too_long most) (blocks_after gap [] xs)
long_of b gap most xs is = ap (λ (d : Blocks). d.long) is ∙ long_counted gap most xs
