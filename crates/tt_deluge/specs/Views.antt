-- Proof. The targets of a deluge as lists, and the courses with a choice.
use Rattle.std.specs.Prelude.{◌≡◌, ℕ, ◌<◌, Bool, false, List, [], ◌∷◌, length, map, slice_index_or}
use Rattle.tt_problem.specs.declared.parts.Parts.{Parts}
use Rattle.tt_improve.specs.declared.targets.Target.{Target}
use Rattle.tt_improve.specs.declared.targets.Target.TheVariants.{Class, Course}
use Rattle.tt_deluge.specs.declared.targets.Choice.{Choice}
use Rattle.tt_deluge.specs.declared.targets.Targets.{Targets as Kept}
use Rattle.tt_deluge.specs.Pieces.{Targets, has_choice}

-- the course of a student
abbrev pub target_of : Choice → Target
target_of choice = Course choice.student choice.course

-- what rounds are made over
abbrev pub targets_in : Kept → Targets
targets_in targets = record { classes = targets.classes.items; choices = map target_of targets.choices.items }

-- the class of a target that is one
abbrev pub class_of : Target → List ℕ
class_of (Class class) = class ∷ []
class_of (Course student course) = []

-- the course of the target, if it is one, is of the problem
abbrev pub IsCourseWithin : Parts → Target → Type 0
IsCourseWithin p (Class class) = Unit {0}
IsCourseWithin p (Course student course) = course < length p.courses

-- the flags tell of each course whether a student has a choice of its classes
pub record AreFlagsOf (p : Parts) (flags : List Bool) : Type 0 where
  pub whole : length flags ≡ length p.courses
  pub each : (course : ℕ) → course < length flags → slice_index_or flags course false ≡ has_choice p course
