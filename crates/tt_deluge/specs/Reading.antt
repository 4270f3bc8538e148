-- Proof. The words to come of a generator.
use Rattle.rand_core.specs.Stream.{Stream}
use Rattle.rand_core.specs.Steps.{stream_of, steps_u32}
use Rattle.rand_pcg.specs.Lcg.{Lcg}
use Rattle.rand_pcg.specs.Pcg.{pcg32}

-- the words that a generator will give
abbrev pub random_of : Lcg → Stream
random_of generator = stream_of (steps_u32 pcg32) generator
