-- Proof. Pieces of what is said of choices.
use Rattle.std.specs.Prelude.{ℕ, ◌-◌, List, ◌∷◌, Option, None, map, slice_get}
use Rattle.std.specs.List.{flat_map, range_with_len}
use Rattle.std.specs.Option.{option_map_or}
use Rattle.tt_problem.specs.declared.parts.Span.{Span}
use Rattle.tt_problem.specs.declared.parts.Parts.{Parts}
use Rattle.tt_problem.specs.ListLengths.{spans_at}
use Rattle.tt_choice.specs.Choices.{choices_of}

-- the places from one up to another, which is not among them
abbrev pub places_between : ℕ → ℕ → List ℕ
places_between first after = range_with_len first (after - first)

-- one of the classes, and then each of the choices
abbrev pub each_before : List ℕ → List (List ℕ) → List (List ℕ)
each_before classes choices = flat_map (λ c. map (λ choice. c ∷ choice) choices) classes

-- the choices of a course: those of one configuration after another, each given by its subparts
abbrev pub course_choices : List (List Span) → List (List ℕ)
course_choices configs = flat_map choices_of configs

-- the choices of a course by the tables of configurations and subparts
abbrev pub choices_of_course : List Span → List Span → Span → List (List ℕ)
choices_of_course configs subparts course = course_choices (map (spans_at subparts) (spans_at configs course))

-- the parent of a class, if it has one
abbrev pub parent_in : Parts → (class : ℕ) → Option ℕ
parent_in p class = option_map_or (λ part. part.parent) (slice_get p.classes class) None
