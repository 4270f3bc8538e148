-- The subparts of a configuration follow one another.
use Rattle.std.proofs.Common.{ℕ, ◌-◌, ◌≤◌, List, [], ◌∷◌, drop, take, arith}
use Rattle.std.specs.Prelude.{slice_range}
use Rattle.tt_problem.specs.declared.parts.Span.{Span}
use Rattle.tt_problem.specs.Spans.{Covers, CoversFrom}
use Rattle.tt_least.specs.Choices.{AreApart}
use Rattle.tt_choice.specs.Searched.{AreInTurn}
use Rattle.tt_choice.proofs.CourseLemmas.{covers-cut}

-- spans that are apart end where they begin, or later
pub apart-le : (spans : List Span) (first after : ℕ) → AreApart first spans after → first ≤ after
apart-le [] first after h = h
apart-le (s ∷ spans) first after h = omega (arith, h.0, h.1, apart-le spans s.after after h.2)

-- spans that follow one another are apart
pub covers-apart : (spans : List Span) (first after : ℕ) → CoversFrom first spans after → AreApart first spans after
covers-apart [] first after h = omega (arith, h)
covers-apart (s ∷ spans) first after h = (omega (arith, h.0), omega (arith, h.1), covers-apart spans s.after after h.2)

-- the subparts of a configuration are in turn, where those of all configurations follow one another
pub config-turn : (subparts : List Span) (classes : ℕ) (config : Span) → Covers subparts classes → AreInTurn (slice_range subparts config.first config.after)
config-turn subparts classes config covers =
    let cut = covers-cut config.first subparts 0 classes covers in
    let mine = covers-cut (config.after - config.first) (drop config.first subparts) cut.place classes cut.rest in
    record {
      first = cut.place;
      after = mine.place;
      apart = covers-apart (take (config.after - config.first) (drop config.first subparts)) cut.place mine.place mine.front;
    }
