-- The text of a set is read as that set.
use Rattle.std.proofs.Common.{◌≡◌, ◌∙◌, ℕ, ◌+◌, ◌*◌, ◌/◌, ◌<◌, ◌^◌, true, cond, List, [], ◌∷◌, ◌++◌, length, map, Some, refl, ap, zero, suc, arith, inl, inr, pow-suc}
use Rattle.std.specs.Prelude.{if◌then◌else◌, ◌==◌, ◌||◌, nat_lt, option_and_then}
use Rattle.std.specs.List.{range_with_len, list_all, list_any}
use Rattle.std.specs.Int.{bit_at}
use Rattle.std.proofs.lemmas.Bool.{cases_Bool, lt-ltb, eq-eqb, eqb-true, eqb-false}
use Rattle.std.proofs.lemmas.List.FromFn.{length-map-range_with_len, map-range_with_len_more}
use Rattle.std.proofs.lemmas.Nat.Bits.{bit_at_lowest, bit_at-suc}
use Rattle.tt_base.specs.Sets.{has, number_of, read_set}
use Rattle.tt_base.proofs.ReadLemmas.{any_one}
use Rattle.tt_bits.specs.declared.days.Days.{Days}
use Rattle.tt_bits.specs.declared.weeks.Weeks.{Weeks}
use Rattle.tt_bits.specs.Sets.{day_set, week_set, digit, set_text, days_text, weeks_text, days_of, weeks_of}
use Rattle.tt_bits.proofs.SetLemmas.{day_set-positive, week_set-positive, days_of-day_set, weeks_of-week_set}

has_suc : (t i : ℕ) → has t (suc i) ≡ has (t / 2) i
unfolding has
has_suc t i = rw bit_at-suc refl

-- the lowest bit, as a digit
lowest : (t : ℕ) → cond (cond (has t 0) 49 48 == 49) 1 0 + 2 * (t / 2) ≡ t
unfolding has
lowest t = elim (cases_Bool (bit_at t 0 == 1)) [
  | inl one ↦ rw one (omega (arith, bit_at_lowest t, eqb-true (bit_at t 0) 1 one))
  | inr other ↦ rw other (omega (arith, bit_at_lowest t, eqb-false (bit_at t 0) 1 other))
]

-- the digits of a set from a place on are the number that has these places
digits : (s a n t : ℕ) → t < 2 ^ n → ((i : ℕ) → has s (a + i) ≡ has t i) → number_of (map (digit s) (range_with_len a n)) ≡ t
digits s a zero t small same = omega arith
digits s a (suc n) t small same =
    let here : has s a ≡ has t 0 = ap (has s) (omega arith) ∙ same 0 in
    let half : t / 2 < 2 ^ n = omega (arith, pow-suc 2 n) in
    let rest : number_of (map (digit s) (range_with_len (a + 1) n)) ≡ t / 2 = digits s (a + 1) n (t / 2) half (λ i. ap (has s) (omega arith) ∙ same (suc i) ∙ has_suc t i) in
    rw (here, rest) (lowest t)

all_digits : (s : ℕ) (places : List ℕ) → list_all (λ c. (c == 48) || (c == 49)) (map (digit s) places) ≡ true
all_digits s [] = refl
all_digits s (i ∷ places) = elim (cases_Bool (has s i)) [
  | inl t ↦ rw t (all_digits s places)
  | inr f ↦ rw f (all_digits s places)
]

pub read_set_text : (n s : ℕ) → 0 < s → s < 2 ^ n → read_set (set_text n s) n ≡ Some s
read_set_text n s some small =
    let number : number_of (set_text n s) ≡ s = digits s 0 n s small (λ i. ap (has s) (omega arith)) in
    let long : (length (set_text n s) == n) ≡ true = eq-eqb _ _ (length-map-range_with_len (digit s) 0 n) in
    let one : list_any (λ c. c == 49) (set_text n s) ≡ true = any_one (set_text n s) ∙ ap (nat_lt 0) number ∙ lt-ltb 0 s some in
    rw (long, all_digits s (range_with_len 0 n), one) (ap Some number)

-- the days and weeks that are written are read
pub days_text_back : (n : ℕ) (d : Days) → day_set d < 2 ^ n → days_text (set_text n (day_set d)) n ≡ Some d
days_text_back n d small = ap (option_and_then days_of) (read_set_text n (day_set d) (day_set-positive d) small) ∙ days_of-day_set d

pub weeks_text_back : (n : ℕ) (w : Weeks) → week_set w < 2 ^ n → weeks_text (set_text n (week_set w)) n ≡ Some w
weeks_text_back n w small = ap (option_and_then weeks_of) (read_set_text n (week_set w) (week_set-positive w) small) ∙ weeks_of-week_set w

-- the text of one place more
pub set_text_more : (n s : ℕ) → set_text (n + 1) s ≡ set_text n s ++ (if has s n then 49 else 48) ∷ []
set_text_more n s = map-range_with_len_more (digit s) 0 n n (omega arith)
