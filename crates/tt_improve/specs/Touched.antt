-- Proof. Which targets a change touches, and the stage of the last change that touched each.
use Rattle.std.specs.Prelude.{◌≡◌, ℕ, ◌<◌, Bool, true, false, ◌||◌, max, nat_eq, length, slice_index}
use Rattle.std.specs.Option.{option_map_or}
use Rattle.tt_base.specs.Lists.{is_listed}
use Rattle.tt_problem.specs.declared.parts.Parts.{Parts}
use Rattle.tt_problem.specs.Places.{course_of}
use Rattle.tt_state.specs.Snapshots.{Snapshot, list_in}
use Rattle.tt_improve.specs.declared.targets.Target.{Target}
use Rattle.tt_improve.specs.declared.targets.Target.TheVariants.{Class, Course}
use Rattle.tt_improve.specs.declared.touched.Touched.{Touched}
use Rattle.tt_improve.specs.Courses.{is_of_course}

-- a class and a course of a student have something in common: the student has the class, or it is of the course
abbrev pub meets : Parts → Snapshot → (class student course : ℕ) → Bool
meets p s class student course = is_listed class (list_in s student) || is_of_course p course class

-- two targets have something in common: two classes have, and two courses of students where the student or the course is the same
abbrev pub have_in_common : Parts → Snapshot → Target → Target → Bool
have_in_common p s (Class class) (Class other) = true
have_in_common p s (Class class) (Course student course) = meets p s class student course
have_in_common p s (Course student course) (Class class) = meets p s class student course
have_in_common p s (Course student course) (Course other k) = nat_eq student other || nat_eq course k

-- the stage of the last change of a course
abbrev pub stage_of : Touched → (course : ℕ) → ℕ
stage_of touched course = slice_index touched.courses.items course

-- the stage of the last change that touched a target
abbrev pub last_of : Parts → Touched → Target → ℕ
last_of p touched (Class class) = max touched.any_class (max (slice_index touched.classes.items class) (option_map_or (stage_of touched) (course_of p class) 0))
last_of p touched (Course student course) = max (slice_index touched.students.items student) (stage_of touched course)

-- there is a stage for each class, each student and each course
pub record IsTableOf (p : Parts) (touched : Touched) : Type 0 where
  pub classes : length touched.classes.items ≡ length p.classes
  pub students : length touched.students.items ≡ length p.students
  pub courses : length touched.courses.items ≡ length p.courses

-- the change of a target in a stage is noted: what it left out has nothing in common with the target, and is as it was
pub record IsNoted (p : Parts) (s : Snapshot) (old new : Touched) (target : Target) (stage : ℕ) : Type 0 where
  pub apart : (other : Target) → last_of p new other < stage → have_in_common p s target other ≡ false
  pub same : (other : Target) → last_of p new other < stage → last_of p new other ≡ last_of p old other
