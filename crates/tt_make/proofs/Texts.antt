-- The text of a list whose items are drawn and written one after another.
use Rattle.std.proofs.Common.{◌≡◌, ℕ, zero, suc, ◌+◌, ◌≤◌, ◌<◌, List, [], ◌∷◌, ◌++◌, length, Bool, true, false, ◌||◌, refl, sym, ap, ◌∙◌, arith, append_assoc, length-append}
use Rattle.std.specs.Prelude.{nat_lt}
use Rattle.std.proofs.lemmas.Bool.{lt-ltb}
use Rattle.std.proofs.lemmas.List.{append-nil}
use Rattle.rand_pcg.specs.Lcg.{Lcg}
use Rattle.serde_json.specs.Data.{Data}
use Rattle.serde_json.specs.View.{items_of}
use Rattle.serde_json.specs.Written.{compact_text, items_text, comma_if}
use Rattle.tt_make.specs.Draws.{Draws, draw_each}
use Rattle.tt_make.specs.Values.{list}

-- the texts of items, with commas between
unfoldable pub pieces : Bool → List Data → List ℕ
pieces later [] = []
pieces later (d ∷ ds) = comma_if later ++ (compact_text d ++ pieces true ds)

abbrev some : List Data → Bool
some [] = false
some (d ∷ ds) = true

pieces_end : (later : Bool) (ds : List Data) → items_text later (items_of ds) ≡ pieces later ds ++ 93 ∷ []
unfolding pieces
pieces_end later [] = refl
pieces_end later (d ∷ ds) =
    rw (pieces_end true ds) (ap (λ (t : List ℕ). comma_if later ++ t) (sym (append_assoc (compact_text d) (pieces true ds) (93 ∷ []))) ∙ sym (append_assoc (comma_if later) (compact_text d ++ pieces true ds) (93 ∷ [])))

later_comma : (later : Bool) → comma_if (later || true) ≡ 44 ∷ []
later_comma true = refl
later_comma false = refl

pieces_push : (later : Bool) (ds : List Data) (d : Data) → pieces later (ds ++ d ∷ []) ≡ pieces later ds ++ (comma_if (later || some ds) ++ compact_text d)
unfolding pieces
pieces_push true [] d = ap (λ (t : List ℕ). 44 ∷ t) (append-nil (compact_text d))
pieces_push false [] d = append-nil (compact_text d)
pieces_push later (e ∷ ds) d =
    rw (later_comma later) (ap (λ (t : List ℕ). comma_if later ++ (compact_text e ++ t)) (pieces_push true ds d)
    ∙ ap (λ (t : List ℕ). comma_if later ++ t) (sym (append_assoc (compact_text e) (pieces true ds) (44 ∷ compact_text d)))
    ∙ sym (append_assoc (comma_if later) (compact_text e ++ pieces true ds) (44 ∷ compact_text d)))

some_from : (ds : List Data) (i : ℕ) → length ds ≡ i → some ds ≡ nat_lt 0 i
some_from [] i h = rw (← h) refl
some_from (d ∷ ds) i h = rw (← h) (sym (lt-ltb 0 (suc (length ds)) (omega arith)))

length_each : (make : ℕ → Draws Data) (from i : ℕ) (start : Lcg) → length (draw_each from i make start).0 ≡ i
unfolding draw_each
length_each make from zero start = refl
length_each make from (suc i) start =
    let one : i + 1 ≡ suc i = omega arith in
    length-append (draw_each from i make start).0 ((make (from + i) (draw_each from i make start).1).0 ∷ []) ∙ ap (λ (m : ℕ). m + 1) (length_each make from i start) ∙ one

each_more : (make : ℕ → Draws Data) (from i : ℕ) (start : Lcg) → draw_each from (i + 1) make start ≡ ((draw_each from i make start).0 ++ (make (from + i) (draw_each from i make start).1).0 ∷ [], (make (from + i) (draw_each from i make start).1).1)
unfolding draw_each
each_more make from i start =
    let one : i + 1 ≡ suc i = omega arith in
    rw one refl

-- the first i items were drawn, and written after what stood before the list
pub record Writes (make : ℕ → Draws Data) (from count i : ℕ) (start : Lcg) (before out : List ℕ) (now : Lcg) : Type 0 where
  pub within : i ≤ count
  pub text : out ≡ before ++ 91 ∷ pieces false (draw_each from i make start).0
  pub random : now ≡ (draw_each from i make start).1

pub writes_none : (make : ℕ → Draws Data) (from count : ℕ) (start : Lcg) (before out : List ℕ) → out ≡ before ++ 91 ∷ [] → Writes make from count 0 start before out start
unfolding pieces draw_each
writes_none make from count start before out e = record { within = omega arith; text = e; random = refl }

pub writes_more : {make : ℕ → Draws Data} {from count i : ℕ} {start now : Lcg} {before out : List ℕ} (comma new : List ℕ) (after : Lcg) → Writes make from count i start before out now → i < count
    → comma ≡ out ++ comma_if (nat_lt 0 i) → new ≡ comma ++ compact_text (make (from + i) now).0 → after ≡ (make (from + i) now).1 → Writes make from count (i + 1) start before new after
writes_more {make = make} {from = from} {i = i} {start = start} {now = now} {before = before} {out = out} comma new after w lt is_comma is_new is_after =
    let ds : List Data = (draw_each from i make start).0 in
    let d : Data = (make (from + i) now).0 in
    let joined : pieces false (ds ++ d ∷ []) ≡ pieces false ds ++ (comma_if (nat_lt 0 i) ++ compact_text d) =
    pieces_push false ds d ∙ ap (λ (b : Bool). pieces false ds ++ (comma_if b ++ compact_text d)) (some_from ds i (length_each make from i start)) in
    record {
      within = omega arith;
      text = is_new ∙ ap (λ (t : List ℕ). t ++ compact_text d) (is_comma ∙ ap (λ (t : List ℕ). t ++ comma_if (nat_lt 0 i)) w.text)
          ∙ append_assoc (before ++ 91 ∷ pieces false ds) (comma_if (nat_lt 0 i)) (compact_text d)
          ∙ append_assoc before (91 ∷ pieces false ds) (comma_if (nat_lt 0 i) ++ compact_text d)
          ∙ ap (λ (t : List ℕ). before ++ 91 ∷ t) (sym joined)
          ∙ ap (λ (g : Lcg). before ++ 91 ∷ pieces false (ds ++ (make (from + i) g).0 ∷ [])) w.random
          ∙ ap (λ (p : List Data × Lcg). before ++ 91 ∷ pieces false p.0) (sym (each_more make from i start));
      random = is_after ∙ ap (λ (g : Lcg). (make (from + i) g).1) w.random ∙ ap (λ (p : List Data × Lcg). p.1) (sym (each_more make from i start));
    }

pub writes_all : {make : ℕ → Draws Data} {from count i : ℕ} {start now : Lcg} {before out : List ℕ} (new : List ℕ) → Writes make from count i start before out now → count ≤ i → new ≡ out ++ 93 ∷ []
    → (new ≡ before ++ compact_text (list (draw_each from count make start).0)) × (now ≡ (draw_each from count make start).1)
writes_all {make = make} {from = from} {count = count} {i = i} {start = start} {now = now} {before = before} {out = out} new w le is_new =
    let all : i ≡ count = omega (arith, w.within, le) in
    let text : new ≡ before ++ compact_text (list (draw_each from i make start).0) =
    is_new ∙ ap (λ (t : List ℕ). t ++ 93 ∷ []) w.text ∙ append_assoc before (91 ∷ pieces false (draw_each from i make start).0) (93 ∷ [])
    ∙ ap (λ (t : List ℕ). before ++ 91 ∷ t) (sym (pieces_end false (draw_each from i make start).0)) in
    (text ∙ ap (λ (m : ℕ). before ++ compact_text (list (draw_each from m make start).0)) all, w.random ∙ ap (λ (m : ℕ). (draw_each from m make start).1) all)
