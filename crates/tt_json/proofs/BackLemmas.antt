-- The text of a value is read back as that value.
use Rattle.std.proofs.Common.{◌≡◌, ◌∙◌, ℕ, suc, pos, negsuc, ◌^◌, ◌<◌, ◌≤◌, ◌==◌, Bool, true, false, List, [], ◌∷◌, Some, get_or, refl, sym, ap, arith, append-nil, IsUtf8, Less, Greater, nat_cmp, ne_eqb}
use Rattle.std.specs.Prelude.{⊤, decimal, option_map, option_and_then}
use Rattle.std.specs.Cmp.Lexicographic.{slice_cmp}
use Rattle.std.specs.Ordering.{ordering_reverse}
use Rattle.std.proofs.lemmas.Cmp.{nat_list_cmp_total}
use Rattle.std.proofs.lemmas.Fmt.{IsAscii-decimal, first_decimal}
use Rattle.std.proofs.lemmas.Str.{IsUtf8-append, IsUtf8-from_ascii}
use Rattle.json.specs.Json as json
use Rattle.json.specs.Lex.{tokens}
use Rattle.json.specs.Print.{IsNumber, quoted}
use Rattle.json.specs.Tree as tree
use Rattle.json.specs.Word.{after_number, head}
use Rattle.json.proofs.Printed.Decimals.{IsNumber-decimal}
use Rattle.json.proofs.Printed.Tokens.{tokens-print}
use Rattle.json.proofs.Printed.Trees.{value-json_tokens, ArePrintable-json_tokens}
use Rattle.json.proofs.Printed.Utf8.{IsUtf8-are_ascii, IsUtf8-boolean, IsUtf8-quoted}
use Rattle.serde_json.specs.Data.{Num, unsigned, negative, float, Data, null, boolean, number, string, array, object, Items, no_items, item, Members, no_members, member, put, depth, items_depth, members_depth}
use Rattle.serde_json.specs.Read.{of_json, of_items, of_members, max_depth, read}
use Rattle.serde_json.specs.Written.{outline, items_outline, members_outline, compact_text, items_text, members_text, comma_if}
use Rattle.serde_json.proofs.Numbers.{number_of-decimal, number_of-negative}
use Rattle.serde_json.proofs.Texts.{print-outline}

-- an integer of 64 bits, with the sign that it is kept with
abbrev pub IsInteger : Num → Type 0
IsInteger (unsigned n) = n < 2 ^ 64
IsInteger (negative (pos n)) = ⊥
IsInteger (negative (negsuc n)) = n < 2 ^ 63
IsInteger (float x) = ⊥

-- the key stands before the first of these
abbrev pub IsBefore : List ℕ → Members → Type 0
IsBefore k no_members = ⊤
IsBefore k (member l d ms) = slice_cmp nat_cmp k l ≡ Less

-- all numbers are integers, texts and keys are UTF-8, and the keys of each object ascend
abbrev mutual
  pub IsReadable : Data → Type 0
  IsReadable null = ⊤
  IsReadable (boolean b) = ⊤
  IsReadable (number n) = IsInteger n
  IsReadable (string s) = IsUtf8 s
  IsReadable (array ds) = AreReadable ds
  IsReadable (object ms) = HaveReadable ms

  pub AreReadable : Items → Type 0
  AreReadable no_items = ⊤
  AreReadable (item d ds) = IsReadable d × AreReadable ds

  pub HaveReadable : Members → Type 0
  HaveReadable no_members = ⊤
  HaveReadable (member k d ms) = IsUtf8 k × IsReadable d × IsBefore k ms × HaveReadable ms

-- ---- the text is UTF-8

utf8_comma : (later : Bool) → IsUtf8 (comma_if later)
utf8_comma true = IsUtf8-are_ascii _ refl
utf8_comma false = IsUtf8-are_ascii _ refl

mutual
  pub utf8_text : (d : Data) → IsReadable d → IsUtf8 (compact_text d)
  utf8_text null h = IsUtf8-are_ascii _ refl
  utf8_text (boolean b) h = IsUtf8-boolean b
  utf8_text (number (unsigned n)) h = IsUtf8-from_ascii _ (IsAscii-decimal n h)
  utf8_text (number (negative (pos n))) h = absurd h
  utf8_text (number (negative (negsuc n))) h = IsUtf8-append (45 ∷ []) _ (IsUtf8-are_ascii _ refl) (IsUtf8-from_ascii _ (IsAscii-decimal (suc n) (omega arith)))
  utf8_text (number (float x)) h = absurd h
  utf8_text (string s) h = IsUtf8-quoted s h
  utf8_text (array ds) h = IsUtf8-append (91 ∷ []) _ (IsUtf8-are_ascii _ refl) (utf8_items false ds h)
  utf8_text (object ms) h = IsUtf8-append (123 ∷ []) _ (IsUtf8-are_ascii _ refl) (utf8_members false ms h)

  utf8_items : (later : Bool) (ds : Items) → AreReadable ds → IsUtf8 (items_text later ds)
  utf8_items later no_items h = IsUtf8-are_ascii _ refl
  utf8_items later (item d ds) h = IsUtf8-append _ _ (utf8_comma later) (IsUtf8-append _ _ (utf8_text d h.0) (utf8_items true ds h.1))

  utf8_members : (later : Bool) (ms : Members) → HaveReadable ms → IsUtf8 (members_text later ms)
  utf8_members later no_members h = IsUtf8-are_ascii _ refl
  utf8_members later (member k d ms) h =
      let value = IsUtf8-append (compact_text d) _ (utf8_text d h.1) (utf8_members true ms h.3) in
      IsUtf8-append _ _ (utf8_comma later) (IsUtf8-append (quoted k) _ (IsUtf8-quoted k h.0) (IsUtf8-append (58 ∷ []) _ (IsUtf8-are_ascii _ refl) value))

-- ---- the tokens of the text

no_minus : (digits : List ℕ) → 48 < get_or digits 0 0 → (head digits == 45) ≡ false
no_minus [] h = absurd (omega arith)
no_minus (d ∷ ds) h = ne_eqb d 45 (λ e. omega arith)

negative_is_number : (n : ℕ) → n < 2 ^ 63 → IsNumber (45 ∷ decimal (suc n))
unfolding after_number
negative_is_number n h =
    rw (no_minus (decimal (suc n)) (first_decimal (suc n) (omega arith) (omega arith))) at (IsNumber-decimal (suc n) (omega arith))

mutual
  outline_has_numbers : (d : Data) → IsReadable d → tree.HasNumbers (outline d)
  outline_has_numbers null h = tt
  outline_has_numbers (boolean b) h = tt
  outline_has_numbers (number (unsigned n)) h = IsNumber-decimal n h
  outline_has_numbers (number (negative (pos n))) h = absurd h
  outline_has_numbers (number (negative (negsuc n))) h = negative_is_number n h
  outline_has_numbers (number (float x)) h = absurd h
  outline_has_numbers (string s) h = tt
  outline_has_numbers (array ds) h = items_have_numbers ds h
  outline_has_numbers (object ms) h = members_have_numbers ms h

  items_have_numbers : (ds : Items) → AreReadable ds → tree.ItemsHaveNumbers (items_outline ds)
  items_have_numbers no_items h = tt
  items_have_numbers (item d ds) h = (outline_has_numbers d h.0, items_have_numbers ds h.1)

  members_have_numbers : (ms : Members) → HaveReadable ms → tree.MembersHaveNumbers (members_outline ms)
  members_have_numbers no_members h = tt
  members_have_numbers (member k d ms) h = (outline_has_numbers d h.1, members_have_numbers ms h.3)

mutual
  depth-outline : (d : Data) → tree.depth (outline d) ≡ depth d
  depth-outline null = refl
  depth-outline (boolean b) = refl
  depth-outline (number n) = refl
  depth-outline (string s) = refl
  depth-outline (array ds) = rw (items_depth-outline ds)
  depth-outline (object ms) = rw (members_depth-outline ms)

  items_depth-outline : (ds : Items) → tree.items_depth (items_outline ds) ≡ items_depth ds
  items_depth-outline no_items = refl
  items_depth-outline (item d ds) = rw (depth-outline d, items_depth-outline ds)

  members_depth-outline : (ms : Members) → tree.members_depth (members_outline ms) ≡ members_depth ms
  members_depth-outline no_members = refl
  members_depth-outline (member k d ms) = rw (depth-outline d, members_depth-outline ms)

tokens_of_text : (d : Data) → IsReadable d → tokens (compact_text d) ≡ tree.json_tokens (outline d)
tokens_of_text d h = ap tokens (sym (print-outline d)) ∙ tokens-print (tree.json_tokens (outline d)) (ArePrintable-json_tokens (outline d) (outline_has_numbers d h))

-- ---- the members are put back in their order

abbrev joined : Members → Members → Members
joined no_members rest = rest
joined (member k d ms) rest = member k d (joined ms rest)

joined_none : (ms : Members) → joined ms no_members ≡ ms
joined_none no_members = refl
joined_none (member k d ms) = ap (member k d) (joined_none ms)

joined_assoc : (ms : Members) (k : List ℕ) (d : Data) (rest : Members) → joined (joined ms (member k d no_members)) rest ≡ joined ms (member k d rest)
joined_assoc no_members k d rest = refl
joined_assoc (member l e ms) k d rest = ap (member l e) (joined_assoc ms k d rest)

-- each of these keys stands before k
abbrev AreBefore : Members → List ℕ → Type 0
AreBefore no_members k = ⊤
AreBefore (member l e ms) k = (slice_cmp nat_cmp l k ≡ Less) × AreBefore ms k

-- the first of the members that follow stands after those before
abbrev Follow : Members → Members → Type 0
Follow before no_members = ⊤
Follow before (member k d ms) = AreBefore before k

follow_none : (ms : Members) → Follow no_members ms
follow_none no_members = tt
follow_none (member k d ms) = tt

follow_more : (before ms : Members) (k : List ℕ) (d : Data) → AreBefore before k → IsBefore k ms → Follow (joined before (member k d no_members)) ms
follow_more before no_members k d earlier later = tt
follow_more no_members (member l e ms) k d earlier later = (later, tt)
follow_more (member j x before) (member l e ms) k d earlier later =
    (nat_list_cmp_total.trans j k l earlier.0 later, follow_more before (member l e ms) k d earlier.1 later)

put_last : (before : Members) (k : List ℕ) (d : Data) → AreBefore before k → put k d before ≡ joined before (member k d no_members)
put_last no_members k d earlier = refl
put_last (member l e before) k d earlier =
    let above : slice_cmp nat_cmp k l ≡ Greater = nat_list_cmp_total.antisymm k l ∙ ap ordering_reverse earlier.0 in
    rw above (ap (member l e) (put_last before k d earlier.1))

mutual
  of_json-outline : (d : Data) → IsReadable d → of_json (outline d) ≡ Some d
  of_json-outline null h = refl
  of_json-outline (boolean b) h = refl
  of_json-outline (number (unsigned n)) h = ap (option_map number) (number_of-decimal n h)
  of_json-outline (number (negative (pos n))) h = absurd h
  of_json-outline (number (negative (negsuc n))) h = ap (option_map number) (number_of-negative n h)
  of_json-outline (number (float x)) h = absurd h
  of_json-outline (string s) h = refl
  of_json-outline (array ds) h = ap (option_map array) (of_items-outline ds h)
  of_json-outline (object ms) h = ap (option_map object) (of_members-outline no_members ms h (follow_none ms))

  of_items-outline : (ds : Items) → AreReadable ds → of_items (items_outline ds) ≡ Some ds
  of_items-outline no_items h = refl
  of_items-outline (item d ds) h = rw (of_json-outline d h.0, of_items-outline ds h.1)

  of_members-outline : (before ms : Members) → HaveReadable ms → Follow before ms → of_members (members_outline ms) before ≡ Some (joined before ms)
  of_members-outline before no_members h follow = ap Some (sym (joined_none before))
  of_members-outline before (member k d ms) h follow =
      rw (of_json-outline d h.1, put_last before k d follow)
      (of_members-outline (joined before (member k d no_members)) ms h.3 (follow_more before ms k d follow h.2) ∙ ap Some (joined_assoc before k d ms))

-- ---- the whole text

pub read_text : (d : Data) → IsReadable d → depth d ≤ max_depth → read (compact_text d) ≡ Some d
read_text d h shallow =
    let j = outline d in
    ap (λ o. option_and_then of_json (option_and_then (λ p. json.if_last p.0 p.1) o))
    (ap (json.value max_depth) (tokens_of_text d h ∙ sym (append-nil (tree.json_tokens j))) ∙ value-json_tokens j max_depth [] (omega (arith, depth-outline d)))
    ∙ of_json-outline d h
