-- The first word of a line.
use Rattle.std.proofs.Common.{◌≡◌, ℕ, ◌<◌, ◌≤◌, List, [], ◌∷◌, length, take, drop, true, false, arith, zero, suc, refl, ap, sym, ◌∙◌}
use Rattle.std.proofs.lemmas.Bool.Decides.{nat_tests}
use Rattle.std.specs.Prelude.{slice_index, nat_lt}
use Rattle.std.specs.List.{filter, slice_split, onto_first}
use Rattle.std.proofs.lemmas.List.Splits.{slice_split-cons_no}
use Rattle.tt_text.specs.Line.{is_blank, words_of}

-- the parts after the first one, by what stands after it: a blank, or nothing
abbrev later : List ℕ → List (List ℕ)
later [] = []
later (c ∷ rest) = slice_split is_blank rest

-- bytes without a blank, where a blank follows them or nothing, are the first part
first_part : (line : List ℕ) (n : ℕ) → n ≤ length line → ((k : ℕ) → k < n → is_blank (slice_index line k) ≡ false) → (n < length line → is_blank (slice_index line n) ≡ true) → slice_split is_blank line ≡ take n line ∷ later (drop n line)
first_part [] zero le front end = refl
first_part [] (suc n) le front end = absurd (omega arith)
first_part (c ∷ line) zero le front end = rw (end (omega arith)) refl
first_part (c ∷ line) (suc n) le front end =
    slice_split-cons_no is_blank c line (front 0 (omega arith)) ∙ ap (onto_first c) (first_part line n (omega arith) (λ k lt. front (suc k) (omega arith)) (λ lt. end (omega arith)))

words_later : (line : List ℕ) (n : ℕ) → (n < length line → is_blank (slice_index line n) ≡ true) → filter (λ word. nat_lt 0 (length word)) (later (drop n line)) ≡ words_of (drop n line)
words_later [] zero end = refl
words_later [] (suc n) end = refl
words_later (c ∷ line) zero end = rw (end (omega arith)) refl
words_later (c ∷ line) (suc n) end = words_later line n (λ lt. end (omega arith))

-- in a line that begins with another byte than a blank, such bytes are the first word
pub first_word : (line : List ℕ) (n : ℕ) → 0 < length line → is_blank (slice_index line 0) ≡ false → n ≤ length line → ((k : ℕ) → k < n → is_blank (slice_index line k) ≡ false) → (n < length line → is_blank (slice_index line n) ≡ true) → words_of line ≡ take n line ∷ words_of (drop n line)
first_word [] n some begins le front end = absurd (omega arith)
first_word (c ∷ line) zero some begins le front end = let no : false ≡ true = sym begins ∙ end (omega arith) in cc no
first_word (c ∷ line) (suc n) some begins le front end =
    let has : nat_lt 0 (length (c ∷ take n line)) ≡ true = grind (arith, nat_tests) in
    ap (filter (λ word. nat_lt 0 (length word))) (first_part (c ∷ line) (suc n) le front end) ∙ rw has (ap (λ words. (c ∷ take n line) ∷ words) (words_later (c ∷ line) (suc n) end))
