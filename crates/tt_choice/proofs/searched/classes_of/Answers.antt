use Rattle.std.proofs.Common.{◌≡◌, ℕ, ◌-◌, ◌<◌, ◌≤◌, List, [], ◌∷◌, length, get_or, arith}
use Rattle.tt_problem.specs.declared.parts.Span.{Span}
use Rattle.tt_least.specs.Choices.{AreApart}
use Rattle.tt_choice.proofs.searched.classes_of.Goals as goal

abbrev none : Span
none = record { first = 0; after = 0 }

-- subparts that follow one another do so up to the end of the last
to-last : (low first after : ℕ) (s : Span) (rest : List Span) → low ≤ s.first → AreApart first (s ∷ rest) after → AreApart low (s ∷ rest) (get_or (s ∷ rest) (length rest) none).after
to-last low first after s [] le h = (le, h.1, omega arith)
to-last low first after s (t ∷ rest) le h = (le, h.1, to-last s.after s.after after t rest h.2.0 h.2)

apart : (first after : ℕ) (subparts : List Span) → 0 < length subparts → AreApart first subparts after
    → AreApart (get_or subparts 0 none).first subparts (get_or subparts (length subparts - 1) none).after
apart first after [] some h = absurd (omega (arith, some))
apart first after (s ∷ rest) some h =
    let e : length (s ∷ rest) - 1 ≡ length rest = omega arith in
    rw e (to-last s.first first after s rest (omega arith) h)

-- src/searched.rt:106:1
pub returns-clause-apart : goal.returns-clause-apart
returns-clause-apart c = apart c.requires.turn.first c.requires.turn.after c.args.subparts.now c.requires.some c.requires.turn.apart
