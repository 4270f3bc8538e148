-- Proof. What a round stands on, and what it leaves.
use Rattle.std.specs.Prelude.{◌≡◌, ℕ, ◌<◌, ◌≤◌, true, length}
use Rattle.tt_base.specs.Lists.{is_listed}
use Rattle.tt_bits.specs.declared.times.Value.{Value}
use Rattle.tt_problem.specs.declared.parts.Parts.{Parts}
use Rattle.tt_plan.specs.Domain.{IsOfDomain}
use Rattle.tt_state.specs.Snapshots.{Snapshot, StaysLocked, list_in, may_lock, totals_in}
use Rattle.tt_state.specs.Values.{total_with}
use Rattle.tt_choice.specs.Situations.{courses_of}
use Rattle.tt_improve.specs.declared.targets.Target.{Target}
use Rattle.tt_improve.specs.declared.targets.Target.TheVariants.{Class, Course}
use Rattle.tt_improve.specs.Classes.{is_free, total_of}
use Rattle.tt_improve.specs.Targets.{targets_of}

-- the class is one of the problem, it is placed, and it isn't locked
pub record IsMovable (p : Parts) (s : Snapshot) (class : ℕ) : Type 0 where
  pub within : class < length p.classes
  pub free : may_lock s class ≡ true

-- the student is one of the problem who has classes, and the course is one of the student's
pub record IsSeatedIn (p : Parts) (s : Snapshot) (student course : ℕ) : Type 0 where
  pub within : student < length p.students
  pub some : 0 < length (list_in s student)
  pub listed : is_listed course (courses_of p student) ≡ true

-- the target is one of a snapshot
abbrev pub IsTargetOf : Parts → Snapshot → Target → Type 0
IsTargetOf p s (Class class) = IsMovable p s class
IsTargetOf p s (Course student course) = IsSeatedIn p s student course

-- the value is of the class's domain and free, and the total is lower with it
pub record IsLower (p : Parts) (s : Snapshot) (class : ℕ) (v : Value) : Type 0 where
  pub domain : IsOfDomain p class v
  pub free : is_free p s class v ≡ true
  pub lower : total_with p s class v < total_of p s

-- the second snapshot is no worse than the first, and has the same statistics, closures and targets; and each locked class is where it was
pub record IsNoWorse (p : Parts) (s t : Snapshot) : Type 0 where
  pub total : total_of p t ≤ total_of p s
  pub hard : (totals_in p t).hard ≤ (totals_in p s).hard
  pub statistics : t.statistics ≡ s.statistics
  pub closures : t.closures ≡ s.closures
  pub targets : targets_of p t ≡ targets_of p s
  pub locked : (class : ℕ) → StaysLocked s t class
