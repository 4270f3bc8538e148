-- Proof. The configurations of a course that the classes of a list are of.
use Rattle.std.specs.Prelude.{ℕ, Bool, ◌==◌, List, [], ◌∷◌, Option, Some, None, unwrap_or, if◌then◌else◌}
use Rattle.std.specs.Option.{option_and_then, option_or}
use Rattle.tt_problem.specs.declared.parts.CoursePart.{CoursePart}
use Rattle.tt_problem.specs.declared.parts.Parts.{Parts}
use Rattle.tt_problem.specs.Spans.{is_in}
use Rattle.tt_problem.specs.Places.{config_of}

-- the configuration that a class is of, if it is one of the course's
unfoldable pub config_in : Parts → CoursePart → ℕ → Option ℕ
config_in p course class =
    option_and_then (λ config. if is_in config course.configs then Some config else None) (config_of p class)

-- the configuration of the first class of a list that is of the course
abbrev pub first_config : Parts → CoursePart → List ℕ → Option ℕ
first_config p course [] = None
first_config p course (class ∷ list) = option_or (config_in p course class) (first_config p course list)

-- the class is of this configuration, if it is of the course
abbrev pub keeps_to : Parts → CoursePart → ℕ → ℕ → Bool
keeps_to p course config class = unwrap_or (config_in p course class) config == config
