-- Proof. Classes that another one of their subpart can stand for.
use Rattle.std.specs.Prelude.{◌≡◌, ◌≢◌, ℕ, ◌<◌, ◌≤◌, Bool, true, false, List, Some, None}
use Rattle.tt_problem.specs.declared.parts.Span.{Span}
use Rattle.tt_problem.specs.Spans.{is_in}
use Rattle.tt_least.specs.declared.table.Table.{Table}
use Rattle.tt_least.specs.Judged.{IsIn, conflict_in, is_flagged, parent_in, weight_in}

-- no class has the class for its parent
pub record IsNoParent (t : Table) (c : ℕ) : Type 0 where
  pub each : (d : ℕ) → IsIn t d → parent_in t d ≢ Some c

-- the one class is left, needs no parent, costs no more, and conflicts with no class left elsewhere with which the other doesn't
pub record Dominates (t : Table) (left : List Bool) (s : Span) (one other : ℕ) : Type 0 where
  pub apart : one ≢ other
  pub is_left : is_flagged t left one ≡ true
  pub alone : parent_in t one ≡ None
  pub lighter : weight_in t one ≤ weight_in t other
  pub fewer : (d : ℕ) → IsIn t d → is_in d s ≡ false → is_flagged t left d ≡ true → conflict_in t one d ≡ true → conflict_in t other d ≡ true

-- the class is no class's parent, and another one of the span dominates it
pub record IsDominated (t : Table) (left : List Bool) (s : Span) (c : ℕ) : Type 0 where
  pub parent : IsNoParent t c
  pub one : ℕ
  pub from : s.first ≤ one
  pub below : one < s.after
  pub dominates : Dominates t left s one c
