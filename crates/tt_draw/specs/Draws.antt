-- Theorem. Random words, and the draw of one item of a list.
use Rattle.std.specs.Prelude.{ℕ, ◌*◌, ◌/◌, ◌^◌, List, Option, length, slice_get}
use Rattle.rand_core.specs.Stream.{Stream}
use Rattle.rand_core.specs.Steps.{stream_of, steps_u32}
use Rattle.rand_pcg.specs.Lcg.{Lcg, started, increment_of}
use Rattle.rand_pcg.specs.Pcg.{multiplier_64, pcg32}

-- the generator that a seed starts: `Lcg64Xsh32::new(seed, 1)`
abbrev pub seeded : (seed : ℕ) → Lcg
seeded seed = started 64 multiplier_64 seed (increment_of 64 1)

-- the random words: those that `next_u32` of the generator gives
unfoldable pub random_words : (seed : ℕ) → Stream
random_words seed = stream_of (steps_u32 pcg32) (seeded seed)

-- the place that a random word of 32 bits draws among so many, counted from 0
abbrev pub drawn_place : (word count : ℕ) → ℕ
drawn_place word count = word * count / 2 ^ 32

-- the item that a random word draws, none where there is no item
abbrev pub drawn : {A : Type 0} → (word : ℕ) → List A → Option A
drawn word xs = slice_get xs (drawn_place word (length xs))
