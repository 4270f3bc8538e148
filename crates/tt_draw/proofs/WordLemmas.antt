-- The words of a generator that was made from a seed.
use Rattle.std.proofs.Common.{◌≡◌, ℕ, ap}
use Rattle.rand_core.specs.Steps.{stream_of, steps_u32}
use Rattle.rand_pcg.specs.Lcg.{Lcg}
use Rattle.rand_pcg.specs.Pcg.{pcg32}
use Rattle.tt_draw.specs.Draws.{random_words, seeded}

pub random_from : (seed : ℕ) (g : Lcg) → g ≡ seeded seed → stream_of (steps_u32 pcg32) g ≡ random_words seed
unfolding random_words
random_from seed g is = ap (stream_of (steps_u32 pcg32)) is
