use Rattle.std.proofs.Common.{ℕ, ◌≡◌, ◌+◌, ◌<◌, true, false, get_or}
use Rattle.tt_problem.specs.Spans.{is_in}
use Rattle.tt_least.proofs.dominate.has_no_more.Given as goal

abbrev pub invariant-loop-place : goal.invariant-loop-place
invariant-loop-place l = (k : ℕ) → k < l.place → is_in (l.table.first + k) l.span ≡ false
    → get_or l.left k false ≡ true → get_or l.mine k false ≡ true → get_or l.others k false ≡ true
