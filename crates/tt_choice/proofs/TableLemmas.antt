-- The choices of a course by the tables of a problem.
use Rattle.std.proofs.Common.{◌≡◌, ℕ, List, Some, refl}
use Rattle.std.specs.Prelude.{slice_get}
use Rattle.tt_problem.specs.declared.parts.CoursePart.{CoursePart}
use Rattle.tt_problem.specs.declared.parts.Parts.{Parts}
use Rattle.tt_problem.specs.declared.parts.Span.{Span}
use Rattle.tt_choice.specs.Choices.{choices_at, configurations_of}
use Rattle.tt_choice.specs.Pieces.{choices_of_course}

pub choices_are : (p : Parts) (place : ℕ) (part : CoursePart) (configs subparts : List Span) → slice_get p.courses place ≡ Some part → configs ≡ p.configs → subparts ≡ p.subparts
    → choices_of_course configs subparts part.configs ≡ choices_at p place
unfolding choices_at configurations_of
choices_are p place part configs subparts is same those = rw (is, same, those) refl
