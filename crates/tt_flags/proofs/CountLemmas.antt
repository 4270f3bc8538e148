-- Flags that are set, by blocks.
use Rattle.std.specs.Int.{from_bool}
use Rattle.std.proofs.Common.{◌/◌, ◌^◌, ◌≡◌, ◌≢◌, ℕ, zero, suc, ◌+◌, ◌-◌, ◌*◌, ◌<◌, ◌≤◌, Bool, true, false, cond, Option, None, List, [], ◌∷◌, length, replicate, refl, ap, sym, ◌∙◌, ◌⊎◌, inl, inr, arith}
use Rattle.std.specs.Prelude.{slice_get, slice_set, slice_index_or, nat_eq, if◌then◌else◌}
use Rattle.std.proofs.Math.Dec.{leb}
use Rattle.std.specs.List.{filter, range_with_len}
use Rattle.std.proofs.lemmas.Bool.Decides.{eqb_tells, leb_tells}
use Rattle.std.proofs.lemmas.List.{length-replicate, length-set, get_or_past, get_or-set_same, get_or-set_other}
use Rattle.tt_flags.specs.Places.{is_set, set_places}
use Rattle.tt_flags.specs.Counted.{set_among, FlagsAreCounted}

-- what passes of the numbers from a up to b, by whether a passes
pub next_of_range : (f : ℕ → Bool) (a b : ℕ) → a < b → filter f (range_with_len a (b - a)) ≡ (if f a then a ∷ filter f (range_with_len (a + 1) (b - (a + 1))) else filter f (range_with_len (a + 1) (b - (a + 1))))
next_of_range f a b below =
    let e : b - a ≡ suc (b - (a + 1)) = omega arith in
    rw e refl

after_first : (a left : ℕ) (xs : List ℕ) → left ≢ 0 → slice_get (a ∷ xs) left ≡ slice_get xs (left - 1)
after_first a zero xs more = absurd (more refl)
after_first a (suc left) xs more = let e : suc left - 1 ≡ left = omega arith in rw e refl

-- the first number passes, and more are asked for
pub next_set : (f : ℕ → Bool) (a b left : ℕ) (all : Option ℕ) → a < b → f a ≡ true → left ≢ 0 → slice_get (filter f (range_with_len a (b - a))) left ≡ all → slice_get (filter f (range_with_len (a + 1) (b - (a + 1)))) (left - 1) ≡ all
next_set f a b left all below passes more so_far =
    let next = rw passes at (next_of_range f a b below) in
    sym (after_first a left (filter f (range_with_len (a + 1) (b - (a + 1)))) more) ∙ rw next at so_far

-- the first number does not pass
pub next_clear : (f : ℕ → Bool) (a b left : ℕ) (all : Option ℕ) → a < b → f a ≡ false → slice_get (filter f (range_with_len a (b - a))) left ≡ all → slice_get (filter f (range_with_len (a + 1) (b - (a + 1)))) left ≡ all
next_clear f a b left all below fails so_far =
    let next = rw fails at (next_of_range f a b below) in
    rw next at so_far

skip_by : (b : Bool) (a left : ℕ) (xs ys zs : List ℕ) → ((k : ℕ) → length xs ≤ k → slice_get ys k ≡ slice_get zs (k - length xs)) → length (cond b (a ∷ xs) xs) ≤ left
    → slice_get (cond b (a ∷ ys) ys) left ≡ slice_get zs (left - length (cond b (a ∷ xs) xs))
skip_by true a zero xs ys zs rest few = absurd (omega (arith, few))
skip_by true a (suc left) xs ys zs rest few =
    let e : suc left - suc (length xs) ≡ left - length xs = omega arith in
    rw e (rest left (omega (arith, few)))
skip_by false a left xs ys zs rest few = rest left few

-- where more are asked for than pass of the first m, the rest decides
pub skip : (f : ℕ → Bool) (a m n left : ℕ) → length (filter f (range_with_len a m)) ≤ left
    → slice_get (filter f (range_with_len a (m + n))) left ≡ slice_get (filter f (range_with_len (a + m) n)) (left - length (filter f (range_with_len a m)))
skip f a zero n left few =
    let e : a + 0 ≡ a = omega arith in
    let same : left - 0 ≡ left = omega arith in
    let all : zero + n ≡ n = omega arith in
    rw (e, same, all) refl
skip f a (suc m) n left few =
    let e : a + suc m ≡ a + 1 + m = omega arith in
    let on : suc m + n ≡ suc (m + n) = omega arith in
    rw (e, on) (skip_by (f a) a left (filter f (range_with_len (a + 1) m)) (filter f (range_with_len (a + 1) (m + n))) (filter f (range_with_len (a + 1 + m) n)) (λ k. skip f (a + 1) m n k) few)

-- none passes where the test fails
none_pass : (f : ℕ → Bool) (a n : ℕ) → ((k : ℕ) → a ≤ k → f k ≡ false) → filter f (range_with_len a n) ≡ []
none_pass f a zero fails = refl
none_pass f a (suc n) fails = rw (fails a (omega arith)) (none_pass f (a + 1) n (λ k from. fails k (omega arith)))

-- numbers that all fail may be left out at the end
pub leave_out : (f : ℕ → Bool) (a m n : ℕ) → ((k : ℕ) → a + m ≤ k → f k ≡ false) → filter f (range_with_len a (m + n)) ≡ filter f (range_with_len a m)
leave_out f a zero n fails = let all : zero + n ≡ n = omega arith in rw all (none_pass f a n (λ k from. fails k (omega arith)))
leave_out f a (suc m) n fails = let on : suc m + n ≡ suc (m + n) = omega arith in rw on (ap (λ xs. cond (f a) (a ∷ xs) xs) (leave_out f (a + 1) m n (λ k from. fails k (omega arith))))

-- beyond the end no flag is set
pub past_end : (flags : List Bool) (a m : ℕ) → length flags ≤ a + m → (k : ℕ) → a + m ≤ k → is_set flags k ≡ false
past_end flags a m past k from = get_or_past flags k false (omega arith)

few_by : (b : Bool) (a n : ℕ) (xs : List ℕ) → length xs ≤ n → length (cond b (a ∷ xs) xs) ≤ suc n
few_by true a n xs few = omega arith
few_by false a n xs few = omega arith

few_pass : (f : ℕ → Bool) (a n : ℕ) → length (filter f (range_with_len a n)) ≤ n
few_pass f a zero = omega arith
few_pass f a (suc n) = few_by (f a) a n (filter f (range_with_len (a + 1) n)) (few_pass f (a + 1) n)

-- 1 for a flag that is set, else 0
abbrev pub flag : Bool → ℕ
flag true = 1
flag false = 0

length_by : (b : Bool) (a : ℕ) (xs : List ℕ) → length (cond b (a ∷ xs) xs) ≡ flag b + length xs
length_by true a xs = omega arith
length_by false a xs = omega arith

-- tests that agree on a range pass the same of it
same_pass : (f g : ℕ → Bool) (a n : ℕ) → ((k : ℕ) → a ≤ k → k < a + n → f k ≡ g k) → length (filter f (range_with_len a n)) ≡ length (filter g (range_with_len a n))
same_pass f g a zero same = refl
same_pass f g a (suc n) same =
    length_by (f a) a (filter f (range_with_len (a + 1) n))
    ∙ rw (same a (omega arith) (omega arith), same_pass f g (a + 1) n (λ k from below. same k (omega arith) (omega arith))) (sym (length_by (g a) a (filter g (range_with_len (a + 1) n))))

one_by : (f g : ℕ → Bool) (a n c : ℕ) → a ≤ c → c < a + suc n → ((k : ℕ) → k ≢ c → f k ≡ g k) → (a ≢ c → length (filter f (range_with_len (a + 1) n)) + flag (g c) ≡ length (filter g (range_with_len (a + 1) n)) + flag (f c))
    → ((nat_eq a c ≡ true) × (a ≡ c)) ⊎ ((nat_eq a c ≡ false) × (a ≢ c)) → length (filter f (range_with_len a (suc n))) + flag (g c) ≡ length (filter g (range_with_len a (suc n))) + flag (f c)
one_by f g a n c from below same rest (inl is) =
    let others = same_pass f g (a + 1) n (λ k above within. same k (λ e. omega (arith, e, is.1))) in
    let left = length_by (f a) a (filter f (range_with_len (a + 1) n)) in
    let right = length_by (g a) a (filter g (range_with_len (a + 1) n)) in
    let here : flag (f a) ≡ flag (f c) = ap (λ k. flag (f k)) is.1 in
    let there : flag (g a) ≡ flag (g c) = ap (λ k. flag (g k)) is.1 in
    omega (arith, left, right, others, here, there)
one_by f g a n c from below same rest (inr other) =
    let left = length_by (f a) a (filter f (range_with_len (a + 1) n)) in
    let right = length_by (g a) a (filter g (range_with_len (a + 1) n)) in
    let here : flag (f a) ≡ flag (g a) = ap flag (same a other.1) in
    omega (arith, left, right, here, rest other.1)

-- tests that differ at one number of a range alone
one_differs : (f g : ℕ → Bool) (a n c : ℕ) → a ≤ c → c < a + n → ((k : ℕ) → k ≢ c → f k ≡ g k) → length (filter f (range_with_len a n)) + flag (g c) ≡ length (filter g (range_with_len a n)) + flag (f c)
one_differs f g a zero c from below same = absurd (omega arith)
one_differs f g a (suc n) c from below same =
    one_by f g a n c from below same (λ differ. one_differs f g (a + 1) n c (omega (arith, a_below a c from differ)) (omega arith) same) (eqb_tells a c)
  where
    a_below : (a c : ℕ) → a ≤ c → a ≢ c → a < c
    a_below a c from differ = omega (arith, from, differ)

other_set : (flags : List Bool) (c : ℕ) (b : Bool) (k : ℕ) → k ≢ c → is_set (slice_set flags c b) k ≡ is_set flags k
other_set flags c b k differ = get_or-set_other flags c k b false differ

-- a flag of a range is changed
pub changed_within : (flags : List Bool) (a n c : ℕ) (b : Bool) → c < length flags → a ≤ c → c < a + n → set_among (slice_set flags c b) a n + flag (is_set flags c) ≡ set_among flags a n + flag b
unfolding set_among
changed_within flags a n c b within from below =
    let more = one_differs (is_set (slice_set flags c b)) (is_set flags) a n c from below (other_set flags c b) in
    let now : flag (is_set (slice_set flags c b) c) ≡ flag b = ap flag (get_or-set_same flags c b false within) in
    omega (arith, more, now)

-- a flag of no range is changed
pub changed_beyond : (flags : List Bool) (a n c : ℕ) (b : Bool) → (c < a) ⊎ (a + n ≤ c) → set_among (slice_set flags c b) a n ≡ set_among flags a n
unfolding set_among
changed_beyond flags a n c b (inl before) = same_pass (is_set (slice_set flags c b)) (is_set flags) a n (λ k from below. other_set flags c b k (λ e. omega (arith, e)))
changed_beyond flags a n c b (inr after) = same_pass (is_set (slice_set flags c b)) (is_set flags) a n (λ k from below. other_set flags c b k (λ e. omega (arith, e)))

-- no more flags are set than there are
pub few_set : (flags : List Bool) (a n : ℕ) → set_among flags a n ≤ n
unfolding set_among
few_set flags a n = few_pass (is_set flags) a n

-- no flag is set of those that are clear
clear_of : (n k : ℕ) → is_set (replicate n false) k ≡ false
clear_of zero k = refl
clear_of (suc n) zero = refl
clear_of (suc n) (suc k) = clear_of n k

clear_among : (n a m : ℕ) → filter (is_set (replicate n false)) (range_with_len a m) ≡ []
clear_among n a m = none_pass (is_set (replicate n false)) a m (λ k from. clear_of n k)

same_zero : (n k : ℕ) → slice_index_or (replicate n zero) k zero ≡ zero
same_zero zero k = refl
same_zero (suc n) zero = refl
same_zero (suc n) (suc k) = same_zero n k

-- with no flag set all counts are 0
pub none_counted : (flags : List Bool) (counts : List ℕ) (n m : ℕ) → flags ≡ replicate n false → counts ≡ replicate m 0 → n < 2 ^ 32 → n ≤ m * 128 → m * 128 ≤ n + 128 → FlagsAreCounted flags counts 0
unfolding set_among
none_counted flags counts n m is zeros few reach tight =
    let whole : length (replicate m zero) ≡ m = length-replicate m zero in
    rw (is, zeros) record {
      few = omega (arith, few, length-replicate n false);
      reach = omega (arith, reach, length-replicate n false, whole);
      tight = omega (arith, tight, length-replicate n false, whole);
      blocks = λ block within. same_zero m block ∙ sym (ap length (clear_among n (block * 128) 128));
      whole = sym (ap length (clear_among n 0 (length (replicate n false))));
    }

-- the numbers up to the end are those of all blocks
pub to_the_end : (flags : List Bool) (a m : ℕ) → length flags ≤ m → a ≤ length flags → filter (is_set flags) (range_with_len a (m - a)) ≡ filter (is_set flags) (range_with_len a (length flags - a))
to_the_end flags a m reach within =
    let e : m - a ≡ (length flags - a) + (m - length flags) = omega arith in
    rw e (leave_out (is_set flags) a (length flags - a) (m - length flags) (past_end flags a (length flags - a) (omega arith)))

-- a block with too few is passed over
pub skip_block : (flags : List Bool) (a m left count : ℕ) (all : Option ℕ) → a + 128 ≤ m → count ≡ set_among flags a 128 → count ≤ left
    → slice_get (filter (is_set flags) (range_with_len a (m - a))) left ≡ all → slice_get (filter (is_set flags) (range_with_len (a + 128) (m - (a + 128)))) (left - count) ≡ all
unfolding set_among
skip_block flags a m left count all within is few so_far =
    let e : m - a ≡ 128 + (m - (a + 128)) = omega arith in
    rw is (sym (skip (is_set flags) a 128 (m - (a + 128)) left (omega (arith, is, few))) ∙ rw e at so_far)

-- in a range that begins behind the end no flag is set
pub behind : (flags : List Bool) (a m k : ℕ) → length flags ≤ a → slice_get (filter (is_set flags) (range_with_len a m)) k ≡ None
behind flags a m k past = ap (λ xs. slice_get xs k) (none_pass (is_set flags) a m (λ j from. get_or_past flags j false (omega arith)))

-- a flag as a number
pub flag_of : (b : Bool) (x : ℕ) → x ≡ from_bool b → x ≡ flag b
flag_of true x is = is
flag_of false x is = is

flag_small : (b : Bool) → flag b ≤ 1
flag_small true = omega arith
flag_small false = omega arith

beyond_by : (block own c : ℕ) → own ≡ c / 128 → block ≢ own → ((leb block own ≡ true) × (block ≤ own)) ⊎ ((leb block own ≡ false) × (own < block)) → (c < block * 128) ⊎ (block * 128 + 128 ≤ c)
beyond_by block own c is differ (inl before) = inr (omega (arith, is, differ, before.1))
beyond_by block own c is differ (inr after) = inl (omega (arith, is, after.1))

count_by_cases : (flags : List Bool) (counts : List ℕ) (count number n m : ℕ) (new : Bool) → FlagsAreCounted flags counts count → number < length flags → number / 128 < length counts
    → m ≡ set_among (slice_set flags number new) (number / 128 * 128) 128
    → (block : ℕ) → block < length counts → ((nat_eq block (number / 128) ≡ true) × (block ≡ number / 128)) ⊎ ((nat_eq block (number / 128) ≡ false) × (block ≢ number / 128))
    → slice_index_or (slice_set counts (number / 128) m) block 0 ≡ set_among (slice_set flags number new) (block * 128) 128
count_by_cases flags counts count number n m new kept within own is block below (inl same) =
    rw same.1 (get_or-set_same counts (number / 128) m 0 own ∙ is)
count_by_cases flags counts count number n m new kept within own is block below (inr other) =
    get_or-set_other counts (number / 128) block m 0 other.1
    ∙ kept.blocks block below
    ∙ sym (changed_beyond flags (block * 128) 128 number new (beyond_by block (number / 128) number refl other.1 (leb_tells block (number / 128))))

-- the block of a flag has a count
pub own_block : (flags : List Bool) (counts : List ℕ) (count number : ℕ) → FlagsAreCounted flags counts count → number < length flags → number / 128 < length counts
own_block flags counts count number kept within = omega (arith, kept.reach, within)

own_change : (flags : List Bool) (counts : List ℕ) (count number n : ℕ) (old new : Bool) → FlagsAreCounted flags counts count → number < length flags → slice_index_or counts (number / 128) 0 ≡ n → is_set flags number ≡ old
    → set_among (slice_set flags number new) (number / 128 * 128) 128 + flag old ≡ n + flag new
own_change flags counts count number n old new kept within at is =
    let change = rw is at (changed_within flags (number / 128 * 128) 128 number new within (omega arith) (omega arith)) in
    let here = sym at ∙ kept.blocks (number / 128) (own_block flags counts count number kept within) in
    omega (arith, change, here)

whole_change : (flags : List Bool) (counts : List ℕ) (count number : ℕ) (old new : Bool) → FlagsAreCounted flags counts count → number < length flags → is_set flags number ≡ old
    → length (set_places (slice_set flags number new)) + flag old ≡ count + flag new
unfolding set_among
whole_change flags counts count number old new kept within is =
    let change = rw is at (changed_within flags 0 (length flags) number new within (omega arith) (omega (arith, within))) in
    rw (length-set flags number new) (omega (arith, change, kept.whole))

-- the count of a flag's block is above what the flag adds
pub less_in_block : (flags : List Bool) (counts : List ℕ) (count number n x : ℕ) (old : Bool) → FlagsAreCounted flags counts count → number < length flags → slice_index_or counts (number / 128) 0 ≡ n → is_set flags number ≡ old → x ≡ from_bool old → x ≤ n
less_in_block flags counts count number n x old kept within at is told =
    omega (arith, own_change flags counts count number n old false kept within at is, flag_of old x told)

pub less_in_all : (flags : List Bool) (counts : List ℕ) (count number x : ℕ) (old : Bool) → FlagsAreCounted flags counts count → number < length flags → is_set flags number ≡ old → x ≡ from_bool old → x ≤ count
less_in_all flags counts count number x old kept within is told =
    omega (arith, whole_change flags counts count number old false kept within is, flag_of old x told)

-- and a block's count is no more than its flags
pub few_in_block : (flags : List Bool) (counts : List ℕ) (count number n : ℕ) → FlagsAreCounted flags counts count → number < length flags → slice_index_or counts (number / 128) 0 ≡ n → n ≤ 128
few_in_block flags counts count number n kept within at =
    omega (arith, sym at ∙ kept.blocks (number / 128) (own_block flags counts count number kept within), few_set flags (number / 128 * 128) 128)

pub told_small : (b : Bool) (x : ℕ) → x ≡ from_bool b → x ≤ 1
told_small b x is = omega (arith, flag_of b x is, flag_small b)

-- the counts once a flag is changed
pub set_flag : (flags : List Bool) (counts : List ℕ) (count number n x y : ℕ) (old new : Bool) → FlagsAreCounted flags counts count → number < length flags → slice_index_or counts (number / 128) 0 ≡ n → is_set flags number ≡ old → x ≡ from_bool old → y ≡ from_bool new
    → FlagsAreCounted (slice_set flags number new) (slice_set counts (number / 128) (n - x + y)) (count - x + y)
set_flag flags counts count number n x y old new kept within at is told_old told_new =
    let own = own_block flags counts count number kept within in
    let m : n - x + y ≡ set_among (slice_set flags number new) (number / 128 * 128) 128 =
    omega (arith, own_change flags counts count number n old new kept within at is, less_in_block flags counts count number n x old kept within at is told_old, flag_of old x told_old, flag_of new y told_new) in
    record {
      few = omega (arith, kept.few, length-set flags number new);
      reach = omega (arith, kept.reach, length-set flags number new, length-set counts (number / 128) (n - x + y));
      tight = omega (arith, kept.tight, length-set flags number new, length-set counts (number / 128) (n - x + y));
      blocks = λ block below. count_by_cases flags counts count number n (n - x + y) new kept within own m block (omega (arith, below, length-set counts (number / 128) (n - x + y))) (eqb_tells block (number / 128));
      whole = omega (arith, whole_change flags counts count number old new kept within is, less_in_all flags counts count number x old kept within is told_old, flag_of old x told_old, flag_of new y told_new);
    }

pub few_in_all : (flags : List Bool) (counts : List ℕ) (count : ℕ) → FlagsAreCounted flags counts count → count ≤ length flags
unfolding set_among
few_in_all flags counts count kept = omega (arith, kept.whole, few_set flags 0 (length flags))

-- what stands at a place, whatever stands for none
pub at_any : {A : Type 0} (xs : List A) (k : ℕ) (d x : A) → k < length xs → x ≡ slice_index_or xs k x → slice_index_or xs k d ≡ x
at_any [] k d x within is = absurd (omega arith)
at_any (y ∷ ys) zero d x within is = sym is
at_any (y ∷ ys) (suc k) d x within is = at_any ys k d x (omega arith) is
