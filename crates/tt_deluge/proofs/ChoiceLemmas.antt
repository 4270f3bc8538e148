-- A choice of classes of a course that is drawn, one subpart after another.
use Rattle.std.proofs.Common.{◌≡◌, ℕ, ◌+◌, ◌-◌, ◌<◌, List, [], ◌∷◌, ◌++◌, Option, Some, None, length, map, get_or, drop, refl, sym, ap, ◌∙◌, arith}
use Rattle.std.specs.Prelude.{slice_get}
use Rattle.std.specs.Option.{option_map, option_map_or}
use Rattle.std.proofs.lemmas.List.{length-map, length-take, length-drop}
use Rattle.std.proofs.lemmas.Option.{slice_get-map, slice_get_read, get_or_from_slice_get}
use Rattle.rand_core.specs.Stream.{Stream, next_u32}
use Rattle.tt_problem.specs.declared.parts.Span.{Span}
use Rattle.tt_problem.specs.declared.parts.CoursePart.{CoursePart}
use Rattle.tt_problem.specs.declared.parts.Parts.{Parts}
use Rattle.tt_problem.specs.ListLengths.{spans_at}
use Rattle.tt_problem.specs.Spans.{IsSpanWithin}
use Rattle.tt_struct.proofs.SpanWalks.{from, next_span, nth_place}
use Rattle.tt_draw.specs.Draws.{drawn, drawn_place}
use Rattle.tt_choice.specs.Choices.{configurations_of}
use Rattle.tt_deluge.specs.Draws.{draw_next}
use Rattle.tt_deluge.specs.StudentRounds.{drawn_choice}
use Rattle.tt_deluge.specs.Pieces.{by_item, fitting}

module _ (p : Parts) (rest : List ℕ) where
  -- what a choice goes on with, once a class of a subpart is drawn
  abbrev goes_on : (so_far : List ℕ) (place after : ℕ) → ℕ → Stream → Option (List ℕ) × Stream
  goes_on so_far place after class random = drawn_choice p rest (so_far ++ class ∷ []) (spans_at p.subparts (from (place + 1) after)) random

  next_subpart : (so_far : List ℕ) (place after : ℕ) (subpart : Span) (random : Stream) → place < after → slice_get p.subparts place ≡ Some subpart
      → drawn_choice p rest so_far (spans_at p.subparts (from place after)) random ≡ by_item (goes_on so_far place after) random (drawn (next_u32 random).0 (fitting p (rest ++ so_far) subpart))
  next_subpart so_far place after subpart random lt is = ap (λ (spans : List Span). drawn_choice p rest so_far spans random) (next_span p.subparts place after subpart lt is)

  -- where none fits, the choice ends
  pub choice_stops : (so_far : List ℕ) (place after : ℕ) (subpart : Span) (random left : Stream) (all : Option (List ℕ) × Stream) → place < after → slice_get p.subparts place ≡ Some subpart
      → None ≡ drawn (next_u32 random).0 (fitting p (rest ++ so_far) subpart) → left ≡ random → all ≡ drawn_choice p rest so_far (spans_at p.subparts (from place after)) random → all ≡ (None, left)
  choice_stops so_far place after subpart random left all lt is none same so =
      so ∙ next_subpart so_far place after subpart random lt is ∙ ap (by_item (goes_on so_far place after) random) (sym none) ∙ ap (λ (w : Stream). (None, w)) (sym same)

  -- else it goes on with the class that is drawn
  pub choice_goes : (so_far : List ℕ) (place after class : ℕ) (subpart : Span) (random left : Stream) (all : Option (List ℕ) × Stream) → place < after → slice_get p.subparts place ≡ Some subpart
      → Some class ≡ drawn (next_u32 random).0 (fitting p (rest ++ so_far) subpart) → left ≡ (next_u32 random).1 → all ≡ drawn_choice p rest so_far (spans_at p.subparts (from place after)) random
      → all ≡ drawn_choice p rest (so_far ++ class ∷ []) (spans_at p.subparts (from (place + 1) after)) left
  choice_goes so_far place after class subpart random left all lt is some next so =
      so ∙ next_subpart so_far place after subpart random lt is ∙ ap (by_item (goes_on so_far place after) random) (sym some) ∙ ap (goes_on so_far place after class) (sym next)

-- the configurations of a course, by the part that it is
pub configurations_are : (p : Parts) (course : ℕ) (part : CoursePart) → slice_get p.courses course ≡ Some part → configurations_of p course ≡ map (spans_at p.subparts) (spans_at p.configs part.configs)
unfolding configurations_of
configurations_are p course part is = ap (λ (o : Option CoursePart). option_map_or (λ (x : CoursePart). map (spans_at p.subparts) (spans_at p.configs x.configs)) o []) is

-- the configuration that is drawn
pub config_drawn : (p : Parts) (course : ℕ) (part : CoursePart) (place : ℕ) (random left : Stream) (config : Span) → slice_get p.courses course ≡ Some part → IsSpanWithin (length p.configs) part.configs
    → (place, left) ≡ draw_next (part.configs.after - part.configs.first) random → place < part.configs.after - part.configs.first → slice_get p.configs (part.configs.first + place) ≡ Some config
    → drawn (next_u32 random).0 (configurations_of p course) ≡ Some (spans_at p.subparts config)
config_drawn p course part place random left config is within next below at =
    let xs = spans_at p.configs part.configs in
    let count = part.configs.after - part.configs.first in
    let long : length xs ≡ count = omega (arith, length-take count (drop part.configs.first p.configs), length-drop part.configs.first p.configs, within.within, within.some) in
    let there = nth_place p.configs part.configs place config (omega (arith, long, below)) in
    let here : config ≡ get_or xs place config = sym (there.2 ∙ get_or_from_slice_get p.configs (part.configs.first + place) config config at) in
    let got : slice_get xs place ≡ Some config = slice_get_read xs (length xs) place config refl (omega (arith, long, below)) here in
    let many : length (map (spans_at p.subparts) xs) ≡ count = length-map xs (spans_at p.subparts) ∙ long in
    let place_is : place ≡ drawn_place (next_u32 random).0 count = ap (λ (d : ℕ × Stream). d.0) next in
    ap (drawn (next_u32 random).0) (configurations_are p course part is)
    ∙ ap (λ (n : ℕ). slice_get (map (spans_at p.subparts) xs) (drawn_place (next_u32 random).0 n)) many
    ∙ ap (slice_get (map (spans_at p.subparts) xs)) (sym place_is)
    ∙ slice_get-map (spans_at p.subparts) xs place ∙ ap (option_map (spans_at p.subparts)) got
