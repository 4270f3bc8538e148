use Rattle.std.proofs.Common.{ℕ, ◌<◌, ◌≤◌, Some}
use Rattle.std.specs.Prelude.{◌≢◌}
use Rattle.tt_least.specs.Judged.{parent_in}
use Rattle.tt_least.proofs.dominate.is_no_parent.Given as goal

abbrev pub invariant-loop-other : goal.invariant-loop-other
invariant-loop-other l = (d : ℕ) → l.table.first ≤ d → d < l.other → parent_in l.table d ≢ Some l.class
