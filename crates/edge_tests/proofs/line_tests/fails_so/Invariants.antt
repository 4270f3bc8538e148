use Rattle.std.specs.Prelude.{IsTrue, is_some}
use Rattle.edge_tests.proofs.line_tests.fails_so.Given as goal

abbrev pub invariant-loop-step : goal.invariant-loop-step
invariant-loop-step l = IsTrue (is_some l.files.store.left)
