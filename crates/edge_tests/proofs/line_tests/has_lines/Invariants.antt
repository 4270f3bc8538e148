use Rattle.std.specs.Prelude.{IsTrue, is_some}
use Rattle.edge_tests.proofs.line_tests.has_lines.Given as goal

abbrev pub invariant-loop-want : goal.invariant-loop-want
invariant-loop-want l = IsTrue (is_some l.files.left)
