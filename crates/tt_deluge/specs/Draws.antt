-- Theorem. Draws, each by the next random word.
use Rattle.std.specs.Prelude.{ℕ, List, Option, None}
use Rattle.std.specs.Option.{option_map_or}
use Rattle.rand_core.specs.Stream.{Stream, next_u32}
use Rattle.tt_draw.specs.Draws.{drawn, drawn_place}

-- a number below a count by the next word, and the words after it
abbrev pub draw_next : (count : ℕ) → Stream → ℕ × Stream
draw_next count random = (drawn_place (next_u32 random).0 count, (next_u32 random).1)

-- what an item of a list gives that the next word draws, with the words after it; where the list is empty nothing, and no word is drawn
abbrev pub by_draw : {A B : Type 0} → List A → (A → Stream → Option B × Stream) → Stream → Option B × Stream
by_draw xs next random =
    let word = next_u32 random in option_map_or (λ x. next x word.1) (drawn word.0 xs) (None, random)
